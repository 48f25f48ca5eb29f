-- What holds of each event, one event after another, as a loop finds it.
use Rattle.std.proofs.Common.{◌≡◌, ℕ, ◌+◌, ◌<◌, ◌≤◌, List, [], ◌∷◌, ◌++◌, length, take, drop, get_or, sym, ◌∙◌, subst}
use Rattle.std.proofs.lemmas.List.{take_all}
use Rattle.nm_history.specs.declared.events.Event.{Event}
use Rattle.nm_history.specs.AtEach.{AtEach}
use Rattle.nm_history.proofs.AtEachLemmas.{AtEach-push, AtEach-split}
use Rattle.nm_types.proofs.ListLemmas.{take_next, split_at}

module _ (R : List Event → Event → Type 0) (h : List Event) where
  -- no event before the first breaks a rule
  pub none_yet : AtEach R (take 0 h)
  unfolding AtEach
  none_yet = tt

  -- one event more that keeps the rule
  pub goes_on : (k : ℕ) (e : Event) → k < length h → e ≡ get_or h k e → AtEach R (take k h) → R (take k h) e →
      AtEach R (take (k + 1) h)
  goes_on k e inside is each here =
      subst (λ (g : List Event). AtEach R g) (sym (take_next h k e inside is)) (AtEach-push R (take k h) e each here)

  -- one event that breaks it
  pub breaks : (k : ℕ) (e : Event) → k < length h → e ≡ get_or h k e → (R (take k h) e → ⊥) → AtEach R h → ⊥
  breaks k e inside is broken each =
      broken (AtEach-split R (take k h) e (drop (k + 1) h)
      (subst (λ (g : List Event). AtEach R g) (split_at h k e inside is) each))

  -- all of them
  pub all_kept : (k : ℕ) → length h ≤ k → AtEach R (take k h) → AtEach R h
  all_kept k over each = subst (λ (g : List Event). AtEach R g) (take_all k h over) each
