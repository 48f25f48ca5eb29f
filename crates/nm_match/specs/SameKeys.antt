-- Keys that are the same are equal, and hash alike.
use Rattle.std.proofs.Common.{◌≡◌, ◌+◌, ◌*◌, ◌==◌, true, false, refl, sym, ◌∙◌, ap, subst, arith}
use Rattle.std.specs.Hash.{Alike, u128, u64}
use Rattle.std.proofs.lemmas.Bool.{eqb-true, false≢true, false_from_ne_true}
use Rattle.std.proofs.lemmas.Bool.Decides.{nat_tests}
use Rattle.nm_types.specs.declared.messages.Peer.{Peer}
use Rattle.nm_types.specs.declared.messages.Peer.TheVariants as peer
use Rattle.nm_types.specs.declared.messages.TagPick.{TagPick}
use Rattle.nm_types.specs.declared.messages.TagPick.TheVariants as tag
use Rattle.nm_match.specs.declared.names.Message.{Message}
use Rattle.nm_match.specs.declared.picks.Picks.{Picks}
use Rattle.nm_match.specs.Names.{same_message}
use Rattle.nm_match.specs.Picks.{code_of, same_peer, same_picks, same_tag}
use Rattle.nm_types.proofs.TruthLemmas.{and_left, and_right, three_parts as three}

same_peer-true : (a b : Peer) → same_peer a b ≡ true → a ≡ b
same_peer-true peer.Any peer.Any h = refl
same_peer-true (peer.One a) (peer.One b) h = let e : a ≡ b = grind (arith, nat_tests) in ap peer.One e
same_peer-true peer.Any (peer.One b) h = absurd (false≢true h)
same_peer-true (peer.One a) peer.Any h = absurd (false≢true h)

same_tag-true : (a b : TagPick) → same_tag a b ≡ true → a ≡ b
same_tag-true tag.Any tag.Any h = refl
same_tag-true (tag.One a) (tag.One b) h = let e : a ≡ b = grind (arith, nat_tests) in ap tag.One e
same_tag-true tag.Any (tag.One b) h = absurd (false≢true h)
same_tag-true (tag.One a) tag.Any h = absurd (false≢true h)

same_peer-self : (a : Peer) → same_peer a a ≡ true
same_peer-self peer.Any = refl
same_peer-self (peer.One a) = grind (arith, nat_tests)

same_tag-self : (a : TagPick) → same_tag a a ≡ true
same_tag-self tag.Any = refl
same_tag-self (tag.One a) = grind (arith, nat_tests)

-- two keys that are the same are equal
pub same_picks-true : (a b : Picks) → same_picks a b ≡ true → a ≡ b
same_picks-true a b h =
    let all = three (same_peer a.from b.from) (same_tag a.tag b.tag) (a.ctx == b.ctx) h in
    let from : a.from ≡ b.from = same_peer-true a.from b.from all.0 in
    let t : a.tag ≡ b.tag = same_tag-true a.tag b.tag all.1 in
    let ctx : a.ctx ≡ b.ctx = let e = all.2 in grind (arith, nat_tests) in
    λ i. record { from = from i; tag = t i; ctx = ctx i }

-- each key is the same as itself
pub same_picks-self : (a : Picks) → same_picks a a ≡ true
same_picks-self a =
    let ctx : (a.ctx == a.ctx) ≡ true = grind (arith, nat_tests) in
    rw (same_peer-self a.from, same_tag-self a.tag) ctx

-- keys that are not the same are not the same the other way round
pub same_picks-flip : (a b : Picks) → same_picks a b ≡ false → same_picks b a ≡ false
same_picks-flip a b apart = false_from_ne_true (same_picks b a) (λ same.
    false≢true (sym apart ∙ subst (λ (c : Picks). same_picks c b ≡ true) (same_picks-true b a same)
    (same_picks-self b)))

-- and have one number
pub picks_alike : Alike same_picks (λ (k : Picks). u64 (code_of k))
picks_alike = record { fed = λ a b same. ap (λ (k : Picks). u64 (code_of k)) (same_picks-true a b same) }

-- two messages that are the same by their names are equal
pub same_message-true : (a b : Message) → same_message a b ≡ true → a ≡ b
same_message-true a b same =
    let rank : a.rank ≡ b.rank = eqb-true a.rank b.rank (and_left (a.rank == b.rank) (a.n == b.n) same) in
    let n : a.n ≡ b.n = eqb-true a.n b.n (and_right (a.rank == b.rank) (a.n == b.n) same) in
    λ i. record { rank = rank i; n = n i }

-- and have one number
pub message_alike : Alike same_message (λ (m : Message). u128 (m.rank + 256 * m.n))
message_alike = record {
  fed = λ a b same. ap (λ (m : Message). u128 (m.rank + 256 * m.n)) (same_message-true a b same);
}
