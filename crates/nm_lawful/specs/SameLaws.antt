-- The test whether two states are the same tells whether they are equal.
use Rattle.std.proofs.Common.{◌≡◌, ℕ, ◌==◌, ◌&&◌, true, false, List, refl, ap}
use Rattle.std.specs.Cmp.{IsEquivalence}
use Rattle.std.specs.Hash.{Alike, u64}
use Rattle.std.proofs.lemmas.Bool.{false≢true}
use Rattle.nm_search.specs.Tells.{Tells, both, by_parts, equivalence, lists, numbers, of_self, peers, picks}
use Rattle.nm_lawful.specs.declared.messages.Claim.{Claim}
use Rattle.nm_lawful.specs.declared.messages.Message.{Message}
use Rattle.nm_lawful.specs.declared.messages.Pattern.{Pattern}
use Rattle.nm_lawful.specs.declared.messages.Request.{Request}
use Rattle.nm_lawful.specs.declared.messages.Standing.{Standing}
use Rattle.nm_lawful.specs.declared.messages.Standing.TheVariants as standing
use Rattle.nm_lawful.specs.contracts.messages.ClaimPartialEq.TheImpl.{ghosts as claim_eq}
use Rattle.nm_lawful.specs.contracts.messages.MessagePartialEq.TheImpl.{ghosts as message_eq}
use Rattle.nm_lawful.specs.contracts.messages.PatternPartialEq.TheImpl.{ghosts as pattern_eq}
use Rattle.nm_lawful.specs.contracts.messages.RequestPartialEq.TheImpl.{ghosts as request_eq}
use Rattle.nm_lawful.specs.contracts.messages.StandingPartialEq.TheImpl.{ghosts as standing_eq}
use Rattle.nm_lawful.specs.Numbers.{rank_number, state_number}
use Rattle.nm_lawful.specs.Ranks.{RankState}
use Rattle.nm_lawful.specs.Sames.{same_ranks, same_states}

patterns : Tells pattern_eq.eq
patterns =
    by_parts (λ (p : Pattern). (p.from, (p.tag, p.ctx))) (λ p. record { from = p.0; tag = p.1.0; ctx = p.1.1 })
    (λ p. refl) (both peers (both picks numbers))

messages : Tells message_eq.eq
messages =
    by_parts (λ (m : Message). (m.place, (m.from, (m.to, (m.tag, (m.ctx, m.len))))))
    (λ p. record {
      place = p.0;
      from = p.1.0;
      to = p.1.1.0;
      tag = p.1.1.1.0;
      ctx = p.1.1.1.1.0;
      len = p.1.1.1.1.1;
    })
    (λ m. refl) (both numbers (both numbers (both numbers (both numbers (both numbers numbers)))))

-- what an open receive and one with its message are made of
posts : Tells (λ (x y : Pattern × ℕ). pattern_eq.eq x.0 y.0 && x.1 == y.1)
posts = both patterns numbers

takes : Tells (λ (x y : ℕ × Message). x.0 == y.0 && message_eq.eq x.1 y.1)
takes = both numbers messages

same_standing : (x y : Standing) → standing_eq.eq x y ≡ true → x ≡ y
same_standing (standing.Send true) (standing.Send true) so = refl
same_standing (standing.Send false) (standing.Send false) so = refl
same_standing (standing.Recalled true) (standing.Recalled true) so = refl
same_standing (standing.Recalled false) (standing.Recalled false) so = refl
same_standing standing.Withdrawn standing.Withdrawn so = refl
same_standing (standing.Open p c) (standing.Open p' c') so =
    ap (λ (x : Pattern × ℕ). standing.Open x.0 x.1) ((posts (p, c) (p', c')).0 so)
same_standing (standing.Marked p c) (standing.Marked p' c') so =
    ap (λ (x : Pattern × ℕ). standing.Marked x.0 x.1) ((posts (p, c) (p', c')).0 so)
same_standing standing.Off standing.Off so = refl
same_standing (standing.Taken c m) (standing.Taken c' m') so =
    ap (λ (x : ℕ × Message). standing.Taken x.0 x.1) ((takes (c, m) (c', m')).0 so)
same_standing x y so = absurd (false≢true so)

own_standing : (x : Standing) → standing_eq.eq x x ≡ true
own_standing (standing.Send true) = refl
own_standing (standing.Send false) = refl
own_standing (standing.Recalled true) = refl
own_standing (standing.Recalled false) = refl
own_standing standing.Withdrawn = refl
own_standing (standing.Open p c) = (posts (p, c) (p, c)).1 refl
own_standing (standing.Marked p c) = (posts (p, c) (p, c)).1 refl
own_standing standing.Off = refl
own_standing (standing.Taken c m) = (takes (c, m) (c, m)).1 refl

standings : Tells standing_eq.eq
standings = of_self same_standing own_standing

requests : Tells request_eq.eq
requests =
    by_parts (λ (r : Request). (r.q, (r.place, r.standing)))
    (λ p. record { q = p.0; place = p.1.0; standing = p.1.1 }) (λ r. refl) (both numbers (both numbers standings))

claims : Tells claim_eq.eq
claims =
    by_parts (λ (c : Claim). (c.m, c.message)) (λ p. record { m = p.0; message = p.1 }) (λ c. refl)
    (both numbers messages)

pub ranks : Tells same_ranks
ranks =
    by_parts (λ (a : RankState). (a.at, (a.requests, (a.outgoing, a.claims))))
    (λ p. record { at = p.0; requests = p.1.0; outgoing = p.1.1.0; claims = p.1.1.1 }) (λ a. refl)
    (both numbers (both (lists requests) (both (lists messages) (lists claims))))

-- the test tells which states are equal
pub states : Tells same_states
states = lists ranks

-- the tests of ranks and of states are equivalences
pub ranks_equiv : IsEquivalence same_ranks
ranks_equiv = equivalence ranks

pub states_equiv : IsEquivalence same_states
states_equiv = equivalence states

-- equal ones have one number
pub ranks_alike : Alike same_ranks (λ (a : RankState). u64 (rank_number a))
ranks_alike = record { fed = λ x y so. ap (λ (a : RankState). u64 (rank_number a)) ((ranks x y).0 so) }

pub states_alike : Alike same_states (λ (s : List RankState). u64 (state_number s))
states_alike = record { fed = λ x y so. ap (λ (s : List RankState). u64 (state_number s)) ((states x y).0 so) }
