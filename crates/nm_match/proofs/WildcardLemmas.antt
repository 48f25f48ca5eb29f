-- What waits under other names, after each change.
use Rattle.std.proofs.Common.{◌≡◌, ℕ, ◌+◌, ◌<◌, ◌==◌, Bool, true, false, not, Option, Some, None, List, [], ◌∷◌, ◌++◌}
use Rattle.std.proofs.Common.{sym, ◌∙◌, ap, subst, arith, slice_get}
use Rattle.std.specs.List.{All, filter, find}
use Rattle.std.specs.Option.{is_none}
use Rattle.std.specs.Prelude.{IfSome}
use Rattle.std.proofs.lemmas.Bool.{false≢true}
use Rattle.std.proofs.lemmas.List.Elements.{All-filter}
use Rattle.indexmap.specs.IndexMap.{get}
use Rattle.nm_types.specs.declared.messages.Arrival.{Arrival}
use Rattle.nm_types.specs.declared.messages.Peer.{Peer}
use Rattle.nm_types.specs.declared.messages.Peer.TheVariants as peer
use Rattle.nm_types.specs.declared.messages.TagPick.{TagPick}
use Rattle.nm_types.specs.declared.messages.TagPick.TheVariants as tag
use Rattle.nm_match.specs.declared.picks.Picks.{Picks}
use Rattle.nm_match.specs.declared.unexpected.Unexpected.{Unexpected}
use Rattle.nm_match.specs.declared.wildcards.Wildcards.{Wildcards}
use Rattle.nm_match.specs.Buckets.{AreBuckets, IsPutLast, IsTaken, bucket_of}
use Rattle.nm_match.specs.Names.{AreUnexpected, IsNamedQueue, has_id, has_one, same_message}
use Rattle.nm_match.specs.Picks.{fits_picks, names_both, picks_of_arrival, same_picks}
use Rattle.nm_match.specs.Queues.{without_first}
use Rattle.nm_match.specs.Wildcards.{IndexQueue, with_any_message, with_any_source, with_any_tag}
use Rattle.nm_match.proofs.BucketLemmas.{find_same, front_is_found, put_last, taken}
use Rattle.nm_match.proofs.OldestLemmas.{swapped}
use Rattle.nm_match.proofs.OrderLemmas.{entry_left, order_found, order_left}

-- what waits in a queue that has these buckets and stands under each wildcard
pub unexpected_in : {arrivals claimed : List Arrival} {next : ℕ} {u : Unexpected} {queue : List (ℕ × Arrival)} →
    (r : IsNamedQueue has_id picks_of_arrival arrivals (has_one claimed) next (bucket_of u.waiting.named.map)
    (get same_message u.standings)) × (r.is.queue ≡ queue) → IndexQueue queue u.waiting.wildcards →
    AreUnexpected arrivals claimed next u
unexpected_in {u = u} named held = record {
  named = named.0;
  wildcards = subst (λ (q : List (ℕ × Arrival)). IndexQueue q u.waiting.wildcards) (sym named.1) held;
}

-- where there are no such buckets, nothing is asked of them
pub not_indexed : (o : Option Wildcards) (queue : List (ℕ × Arrival)) → is_none o ≡ true → IndexQueue queue o
not_indexed None queue none = tt
not_indexed (Some w) queue never = absurd (false≢true never)

-- what is so of what is there, and what is so of all
pub some_both : {X : Type 0} (P Q : X → Type 0) (o : Option X) → IfSome o P → ((x : X) → Q x) →
    IfSome o (λ x. P x × Q x)
some_both P Q None some each = tt
some_both P Q (Some x) some each = (some, each x)

-- what the queue has under a name
abbrev pub under : (Picks → Picks) → List (ℕ × Arrival) → Picks → List (ℕ × Arrival)
under name queue k = filter (λ (x : ℕ × Arrival). same_picks k (name (picks_of_arrival x.1))) queue

module _ {queue : List (ℕ × Arrival)} {next : ℕ} {bucket : Picks → List (ℕ × Arrival)}
    (are : AreBuckets picks_of_arrival queue next bucket) (name : Picks → Picks)
    (m m' : Picks → List (ℕ × Arrival)) (holds : (k : Picks) → m k ≡ under name queue k) where
  abbrev key : Arrival → Picks
  key a = name (picks_of_arrival a)

  are_under : AreBuckets key queue next m
  are_under = record { holds = holds; below = are.below; rising = are.rising }

  -- one more is last under its name
  pub put_under : (a : Arrival) → IsPutLast next a (m (key a)) (m' (key a)) →
      ((k : Picks) → same_picks (key a) k ≡ false → m' k ≡ m k) →
      (k : Picks) → m' k ≡ under name (queue ++ (next, a) ∷ []) k
  put_under a own others =
      (put_last are_under m' a (next + 1) (omega arith)
      (own (subst (λ (l : List (ℕ × Arrival)). All (λ (y : ℕ × Arrival). y.0 < next) l) (sym (holds (key a)))
      (All-filter (λ (y : ℕ × Arrival). same_picks (key a) (key y.1)) (λ (y : ℕ × Arrival). y.0 < next) queue
      are.below))) others).holds

  -- one that is found leaves its name
  pub taken_under : (test : ℕ × Arrival → Bool) (x : ℕ × Arrival) → find test queue ≡ Some x →
      IsTaken (key x.1) x.0 m m' → (k : Picks) → m' k ≡ under name (without_first test queue) k
  taken_under test x found left =
      (subst (λ (l : List (ℕ × Arrival)). AreBuckets key l next m') (order_left test queue x are.rising found)
      (taken are_under m' (λ (y : ℕ × Arrival). x.0 == y.0) x (order_found test queue x are.rising found)
      (left.0 ∙ entry_left x.0 (m (key x.1))) left.1)).holds

-- the first under a name is the oldest that is selected, where it selects what has the name
pub front_under : (queue : List (ℕ × Arrival)) (name : Picks → Picks) (m : Picks → List (ℕ × Arrival)) →
    ((k : Picks) → m k ≡ under name queue k) → (wanted : Picks) →
    ((a : Arrival) → same_picks wanted (name (picks_of_arrival a)) ≡ fits_picks wanted (picks_of_arrival a)) →
    slice_get (m wanted) 0 ≡ find (λ (x : ℕ × Arrival). fits_picks wanted (picks_of_arrival x.1)) queue
front_under queue name m holds wanted fits =
    ap (λ (l : List (ℕ × Arrival)). slice_get l 0) (holds wanted)
    ∙ front_is_found (λ (x : ℕ × Arrival). same_picks wanted (name (picks_of_arrival x.1))) queue
    ∙ find_same (λ (x : ℕ × Arrival). same_picks wanted (name (picks_of_arrival x.1)))
    (λ (x : ℕ × Arrival). fits_picks wanted (picks_of_arrival x.1)) queue (λ x. fits x.1)

-- what names a source and not both has any tag
pub fits_any_tag : (f : Peer) (t : TagPick) (ctx rank : ℕ) → f ≡ peer.One rank →
    not (names_both (record { from = f; tag = t; ctx = ctx })) ≡ true → (a : Arrival) →
    same_picks (record { from = f; tag = t; ctx = ctx }) (with_any_tag (picks_of_arrival a))
    ≡ fits_picks (record { from = f; tag = t; ctx = ctx }) (picks_of_arrival a)
fits_any_tag peer.Any t ctx rank never wild a = absurd (grind arith)
fits_any_tag (peer.One r) tag.Any ctx rank one wild a = swapped (r == a.env.from) true (ctx == a.env.ctx)
fits_any_tag (peer.One r) (tag.One m) ctx rank one wild a = absurd (false≢true wild)

-- what names a tag alone has any source
pub fits_any_source : (f : Peer) (t : TagPick) (ctx named : ℕ) → f ≡ peer.Any → t ≡ tag.One named → (a : Arrival) →
    same_picks (record { from = f; tag = t; ctx = ctx }) (with_any_source (picks_of_arrival a))
    ≡ fits_picks (record { from = f; tag = t; ctx = ctx }) (picks_of_arrival a)
fits_any_source (peer.One r) t ctx named never one a = absurd (grind arith)
fits_any_source peer.Any tag.Any ctx named any never a = absurd (grind arith)
fits_any_source peer.Any (tag.One m) ctx named any one a = swapped true (m == a.env.tag) (ctx == a.env.ctx)

-- what names none has both
pub fits_any_message : (f : Peer) (t : TagPick) (ctx : ℕ) → f ≡ peer.Any → t ≡ tag.Any → (a : Arrival) →
    same_picks (record { from = f; tag = t; ctx = ctx }) (with_any_message (picks_of_arrival a))
    ≡ fits_picks (record { from = f; tag = t; ctx = ctx }) (picks_of_arrival a)
fits_any_message (peer.One r) t ctx never any a = absurd (grind arith)
fits_any_message peer.Any (tag.One m) ctx any never a = absurd (grind arith)
fits_any_message peer.Any tag.Any ctx of_peer of_tag a = swapped true true (ctx == a.env.ctx)
