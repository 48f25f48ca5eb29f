-- Events that may come after others, one after another.
use Rattle.std.proofs.Common.{ℕ, List, [], ◌∷◌, ◌++◌, sym, subst, append_assoc, append-nil}
use Rattle.nm_history.specs.declared.events.Event.{Event}
use Rattle.nm_history.specs.AtEach.{AtEach, AtEachAfter}
use Rattle.nm_history.specs.RankRun.{Always, NumberAt, WholeAt, EndAt}
use Rattle.nm_history.specs.Rules.{AreRight, ClaimedAt}

pub append_after : (R : List Event → Event → Type 0) (before xs ys : List Event)
    → AtEachAfter R before xs → AtEachAfter R (before ++ xs) ys → AtEachAfter R before (xs ++ ys)
append_after R before [] ys a b =
    subst (λ (k : List Event). AtEachAfter R k ys) (append-nil before) b
append_after R before (x ∷ xs) ys a b = (
  a.0,
  append_after R (before ++ x ∷ []) xs ys a.1
      (subst (λ (k : List Event). AtEachAfter R k ys) (sym (append_assoc before (x ∷ []) xs)) b),
)

map_after : (R S : List Event → Event → Type 0)
    → ((h : List Event) (e : Event) → R h e → S h e)
    → (before xs : List Event) → AtEachAfter R before xs → AtEachAfter S before xs
map_after R S f before [] a = tt
map_after R S f before (x ∷ xs) a =
    (f before x a.0, map_after R S f (before ++ x ∷ []) xs a.1)

pub right-append : (ranks : ℕ) (before xs ys : List Event) → AreRight ranks before xs
    → AreRight ranks (before ++ xs) ys → AreRight ranks before (xs ++ ys)
right-append ranks = append_after _

pub right-numbers : (ranks : ℕ) (h : List Event) → AreRight ranks [] h → Always (NumberAt ranks) h
unfolding AtEach
right-numbers ranks h a = map_after _ _ (λ before e r. r.numbers) [] h a

pub right-claims : (ranks : ℕ) (h : List Event) → AreRight ranks [] h → Always ClaimedAt h
unfolding AtEach
right-claims ranks h a = map_after _ _ (λ before e r. r.claims) [] h a

pub right-wholes : (ranks : ℕ) (h : List Event) → AreRight ranks [] h → Always WholeAt h
unfolding AtEach
right-wholes ranks h a = map_after _ _ (λ before e r. r.wholes) [] h a

pub right-ends : (ranks : ℕ) (h : List Event) → AreRight ranks [] h → Always EndAt h
unfolding AtEach
right-ends ranks h a = map_after _ _ (λ before e r. r.ends) [] h a
