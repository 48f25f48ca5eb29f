-- Where a rank breaks a rule first, by the events up to the first one with a wrong number.
use Rattle.std.proofs.Common.{◌≡◌, ℕ, ◌<◌, ◌≤◌, true, Option, Some, None, List, [], ◌++◌, drop, length, take}
use Rattle.std.proofs.Common.{get_or, refl, sym, ◌∙◌, ap, subst, arith}
use Rattle.std.specs.Prelude.{IsSomeAnd, is_some, slice_get}
use Rattle.std.proofs.lemmas.Bool.{false≢true}
use Rattle.std.proofs.lemmas.List.{length-take-le, take-append-drop, take-take}
use Rattle.std.proofs.lemmas.List.Elements.{All-cons, All-nil}
use Rattle.std.proofs.lemmas.Option.{slice_get_read, slice_get_within}
use Rattle.nm_types.proofs.ListLemmas.{get_before, take_next}
use Rattle.nm_types.specs.Commands.{Numbered}
use Rattle.nm_types.specs.Sizes.{Sizes}
use Rattle.nm_history.specs.declared.events.Event.{Event}
use Rattle.nm_history.specs.RankRun.{Always, NumberAt, StampAt, last_stamp}
use Rattle.nm_history.specs.AtEach.{AtEach}
use Rattle.nm_history.proofs.AtEachLemmas.{AtEach-push}
use Rattle.nm_check_rank.specs.Breaks.{BreaksFirstAt}
use Rattle.nm_check_rank.specs.Dues.{IsOwnDue}
use Rattle.nm_check_rank.specs.OwnBreaks.{BreaksAt, IsBreachAt, KeepsAll, RuleAt}
use Rattle.nm_check_rank.specs.OwnClauses.{own_order}
use Rattle.nm_check_rank.specs.declared.breaks.Break.TheVariants.{At}
use Rattle.nm_check_rank.specs.declared.clauses.OwnClause.{OwnClause}
use Rattle.nm_check_rank.specs.declared.clauses.OwnClause.TheVariants as own
use Rattle.nm_check_rank.specs.declared.paired.dues.Due.{Due}
use Rattle.nm_check_rank.specs.declared.paired.dues.Due.TheVariants as due
use Rattle.nm_check_rank.proofs.DueLemmas.{number_told}
use Rattle.nm_check_rank.proofs.OwnLemmas.{broken_next}

-- the first event that breaks a rule in front of another event is the first of all
pub front_breach : (shape : Sizes) (commands : List Numbered) (at : ℕ) (h : List Event) (m k : ℕ) (c : OwnClause)
    (d : Due) → m ≤ length h → KeepsAll shape commands (take k (take m h)) →
    IsSomeAnd (slice_get (take m h) k) (λ e. BreaksAt shape commands (take k (take m h)) e c d) →
    IsBreachAt shape commands at h c (Some d) (At k)
front_breach shape commands at h m k c d inside kept breaks = by_event (slice_get (take m h) k) refl breaks
  where
    by_event : (o : Option Event) → slice_get (take m h) k ≡ o →
        IsSomeAnd o (λ e. BreaksAt shape commands (take k (take m h)) e c d) →
        IsBreachAt shape commands at h c (Some d) (At k)
    by_event None here some = absurd some
    by_event (Some e) here some =
        let whole : take m h ++ drop m h ≡ h = take-append-drop m h in
        let same : slice_get h k ≡ Some e =
        subst (λ (g : List Event). slice_get g k ≡ Some e) whole (get_before (take m h) (drop m h) k e here) in
        let long : length (take m h) ≡ m = length-take-le m h (omega (arith, inside)) in
        let early : k < length (take m h) = slice_get_within (take m h) k e here in
        let front : take k (take m h) ≡ take k h = take-take k m h (omega (arith, long, early)) in (
          λ b. subst (λ (g : List Event). AtEach (λ before e. RuleAt shape commands b before e) g) front (kept b),
          subst (λ (o : Option Event). IsSomeAnd o (λ e. BreaksAt shape commands (take k h) e c d)) (sym same)
              (subst (λ (g : List Event). BreaksAt shape commands g e c d) front some),
        )

-- an event that breaks no rule but the ones on stamps and on numbers
module _ (shape : Sizes) (commands : List Numbered) (at : ℕ) (h : List Event) (k : ℕ) (e : Event)
    (inside : k < length h)
    (is : e ≡ get_or h k e) (kept : KeepsAll shape commands (take k h)) where
  abbrev Rule : OwnClause → Type 0
  Rule b = RuleAt shape commands b (take k h) e

  abbrev Breach : OwnClause → Option Due → Type 0
  Breach c o = IsSomeAnd (slice_get h k) (λ e. IsSomeAnd o (BreaksAt shape commands (take k h) e c))

  here : slice_get h k ≡ Some e
  here = slice_get_read h (length h) k e refl inside is

  at_place : (c : OwnClause) (o : Option Due) → IsSomeAnd o (BreaksAt shape commands (take k h) e c) → Breach c o
  at_place c o breaks =
      subst (λ (x : Option Event). IsSomeAnd x (λ e. IsSomeAnd o (BreaksAt shape commands (take k h) e c))) (sym here)
      breaks

  pub stamp_breach : (d : Due) → (StampAt (take k h) e.stamp → ⊥) →
      Some d ≡ Some (due.Stamp (last_stamp (take k h)) e.stamp) →
      IsBreachAt shape commands at h own.Stamps (Some d) (At k)
  stamp_breach d broken is = (
    kept,
    at_place own.Stamps (Some d)
        (broken_next Rule own_order 0 own.Stamps (omega arith) own_order refl (All-nil Rule) broken, is),
  )

  number_broken : BreaksFirstAt (Always (NumberAt shape.ranks)) h k → NumberAt shape.ranks (take k h) e.what → ⊥
  number_broken first right =
      first.broken (subst (λ (g : List Event). AtEach (λ before e. NumberAt shape.ranks before e.what) g)
      (sym (take_next h k e inside is))
      (AtEach-push (λ before e. NumberAt shape.ranks before e.what) (take k h) e first.kept right))

  some_due : (c : OwnClause) (o : Option Due) → is_some o ≡ true → ((d : Due) → o ≡ Some d →
      BreaksAt shape commands (take k h) e c d) → IsSomeAnd o (BreaksAt shape commands (take k h) e c)
  some_due c None some breaks = absurd (false≢true some)
  some_due c (Some d) some breaks = breaks d refl

  pub number_breach : (o : Option Due) → StampAt (take k h) e.stamp →
      BreaksFirstAt (Always (NumberAt shape.ranks)) h k →
      IsOwnDue shape commands own.Numbers (take k h) e o → IsBreachAt shape commands at h own.Numbers o (At k)
  number_breach o stamp first told =
      let broken = number_broken first in
      let some : is_some o ≡ true =
      ap (λ (x : Option Due). is_some x) told ∙ number_told shape.ranks (take k h) e.what broken in (
        kept,
        at_place own.Numbers o
            (some_due own.Numbers o some (λ d same. (
              broken_next Rule own_order 1 own.Numbers (omega arith) own_order refl
                  (All-cons Rule own.Stamps [] stamp (All-nil Rule)) broken,
              subst (λ (x : Option Due). IsOwnDue shape commands own.Numbers (take k h) e x) same told,
            ))),
      )
