-- The first event at which a rule of each event breaks.
use Rattle.std.proofs.Common.{◌≡◌, ℕ, ◌+◌, ◌<◌, List, [], length, take, drop, get_or, sym, subst}
use Rattle.std.proofs.lemmas.List.{take-append-drop}
use Rattle.nm_history.specs.declared.events.Event.{Event}
use Rattle.nm_history.specs.AtEach.{AtEach}
use Rattle.nm_history.proofs.AtEachLemmas.{AtEach-split}
use Rattle.nm_history.proofs.EachLemmas.{AtEach-prefix}
use Rattle.nm_types.proofs.ListLemmas.{take_next}
use Rattle.nm_check_rank.specs.Breaks.{BreaksFirstAt}

module _ (R : List Event → Event → Type 0) (h : List Event) where
  -- an event that breaks the rule, behind events that keep it
  pub breaks_first : (k : ℕ) (e : Event) → k < length h → e ≡ get_or h k e → AtEach R (take k h) →
      (R (take k h) e → ⊥) → BreaksFirstAt (AtEach R) h k
  breaks_first k e inside is kept broken = record {
    inside = inside;
    kept = kept;
    broken = λ each. broken
        (AtEach-split R (take k h) e [] (subst (λ (g : List Event). AtEach R g) (take_next h k e inside is) each));
  }

  -- where there is such an event, not all keep the rule
  pub not_kept : (k : ℕ) → BreaksFirstAt (AtEach R) h k → AtEach R h → ⊥
  not_kept k first each = first.broken
      (AtEach-prefix R (take (k + 1) h) (drop (k + 1) h)
      (subst (λ (g : List Event). AtEach R g) (sym (take-append-drop (k + 1) h)) each))
