-- What holds of each history that grows by one event after another, and what happened since the last answer.
use Rattle.std.proofs.Common.{◌≡◌, inl, inr, ◌||◌, Bool, true, List, [], ◌∷◌, ◌++◌, sym, ◌∙◌, ap, subst}
use Rattle.std.proofs.Common.{append-nil, append_assoc}
use Rattle.std.specs.List.{list_any}
use Rattle.std.proofs.lemmas.Bool.{false≢true, or_cases, or_left, or_right}
use Rattle.std.proofs.lemmas.List.Folds.{list_any-append}
use Rattle.nm_history.specs.declared.events.Event.{Event}
use Rattle.nm_history.specs.declared.events.Happened.{Happened}
use Rattle.nm_history.specs.declared.events.Happened.TheVariants.{Ran}
use Rattle.nm_history.specs.Happens.{happened}
use Rattle.nm_history.specs.RankRun.{since_after, since_command}
use Rattle.nm_history.proofs.RankRunLemmas.{since-push}

module _ (P : List Event → Type 0) (step : (h : List Event) (e : Event) → P h → P (h ++ e ∷ [])) where
  from_front : (before events : List Event) → P before → P (before ++ events)
  from_front before [] p = subst P (sym (append-nil before)) p
  from_front before (e ∷ events) p =
      subst P (append_assoc before (e ∷ []) events) (from_front (before ++ e ∷ []) events (step before e p))

  -- what holds of no event and stays with one event more
  pub by_pushes : P [] → (h : List Event) → P h
  by_pushes none h = from_front [] h none

module _ (q : Happened → Bool) where
  -- what happened since the last answer happened
  pub since_happened : (h : List Event) → list_any q (since_command h) ≡ true → happened q h ≡ true
  since_happened h = by_pushes (λ h. list_any q (since_command h) ≡ true → happened q h ≡ true) step (λ none. none) h
    where
      by_what : (h : List Event) (e : Event) (what : Happened) →
          (list_any q (since_command h) ≡ true → happened q h ≡ true) →
          list_any q (since_after (since_command h) what) ≡ true → (happened q h || list_any q (what ∷ [])) ≡ true
      by_what h e (Ran line answer) before some = absurd (false≢true some)
      by_what h e what before some =
          elim (or_cases (list_any q (since_command h)) (list_any q (what ∷ []))
          (sym (list_any-append q (since_command h) (what ∷ [])) ∙ some)) [
            | inl was ↦ or_left (happened q h) (list_any q (what ∷ [])) (before was)
            | inr is ↦ or_right (happened q h) (list_any q (what ∷ [])) is
          ]

      step : (h : List Event) (e : Event) → (list_any q (since_command h) ≡ true → happened q h ≡ true) →
          list_any q (since_command (h ++ e ∷ [])) ≡ true → happened q (h ++ e ∷ []) ≡ true
      step h e before some =
          list_any-append (λ (e : Event). q e.what) h (e ∷ [])
          ∙ by_what h e e.what before (sym (ap (λ (xs : List Happened). list_any q xs) (since-push h e)) ∙ some)
