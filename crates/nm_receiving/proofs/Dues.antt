-- What is due of a sender's grants, when a receive takes a message.
use Rattle.std.proofs.Common.{◌≡◌, ◌≢◌, ℕ, ◌<◌, ◌==◌, Bool, true, false, not, ◌&&◌, cond}
use Rattle.std.proofs.Common.{Option, Some, None, List, [], ◌∷◌, ◌++◌, length, get_or, refl, sym, ◌∙◌, ap, subst, ◌⊎◌}
use Rattle.std.proofs.Common.{inl, inr}
use Rattle.std.proofs.Common.{append-nil}
use Rattle.std.specs.Option.{option_map, option_to_list}
use Rattle.std.proofs.Math.ListN.{set}
use Rattle.std.proofs.lemmas.Bool.{cases_eq}
use Rattle.nm_types.specs.declared.messages.Arrival.{Arrival}
use Rattle.nm_history.specs.declared.events.Event.{Event}
use Rattle.nm_history.specs.Matching.{matched_pairs, pair_of_claimed as pair}
use Rattle.nm_history.specs.Sends.{is_ask}
use Rattle.nm_history.specs.Pieces.{granted, is_granted}
use Rattle.nm_rndv.specs.Grants.{Granted, fresh}
use Rattle.nm_receiving.specs.Pieces.{AreDue}
use Rattle.nm_receiving.proofs.DueLemmas.{due-empty, due-grant, due-other}
use Rattle.nm_receiving.specs.Steps.{grants_after, grants_with}
use Rattle.nm_receiving.proofs.Grow.{granted_more}
use Rattle.nm_receiving.proofs.Lists.{row-other, row-same}
use Rattle.nm_types.proofs.NumberLemmas.{unequal, eq_true}

module _ (h events : List Event) (number cap : ℕ) (a : Arrival)
    (grown : matched_pairs (h ++ events) ≡ matched_pairs h ++ pair number cap a ∷ []) where
  -- the message does not come in pieces from this rank
  none_granted : (from : ℕ) → is_granted from (pair number cap a) ≡ false → granted (h ++ events) from ≡ granted h from
  none_granted from none = granted_more h (h ++ events) (Some (pair number cap a)) grown from
      ∙ ap (λ (b : Bool). granted h from ++ cond b (pair number cap a ∷ []) []) none ∙ append-nil (granted h from)

  one_granted : (from : ℕ) → is_granted from (pair number cap a) ≡ true →
      granted (h ++ events) from ≡ granted h from ++ pair number cap a ∷ []
  one_granted from some = granted_more h (h ++ events) (Some (pair number cap a)) grown from
      ∙ ap (λ (b : Bool). granted h from ++ cond b (pair number cap a ∷ []) []) some

  eager : is_ask a.env.how ≡ false → (from : ℕ) → is_granted from (pair number cap a) ≡ false
  eager how from = ap (λ (b : Bool). (a.env.from == from && b) && not (a.env.len == 0)) how ∙ by (a.env.from == from)
    where
      by : (b : Bool) → ((b && false) && not (a.env.len == 0)) ≡ false
      by true = refl
      by false = refl

  elsewhere : (from : ℕ) → from ≢ a.env.from → is_granted from (pair number cap a) ≡ false
  elsewhere from differ =
      ap (λ (b : Bool). (b && is_ask a.env.how) && not (a.env.len == 0))
      (unequal a.env.from from (λ same. differ (sym same)))

  here : (from : ℕ) → from ≡ a.env.from → is_ask a.env.how ≡ true → is_granted from (pair number cap a) ≡ not
      (a.env.len == 0)
  here from same how =
      ap (λ (b : Bool). (b && is_ask a.env.how) && not (a.env.len == 0)) (eq_true a.env.from from (sym same))
      ∙ ap (λ (b : Bool). b && not (a.env.len == 0)) how

  -- its grant is due, if it has bytes
  new_grant : (row : List (ℕ × Granted)) (from place : ℕ) → from ≡ a.env.from → is_ask a.env.how ≡ true
      → AreDue row h from place → AreDue (row ++ (a.n, fresh a.env.len) ∷ []) (h ++ events) from place
  new_grant row from place same how due = by (cases_eq a.env.len 0)
    where
      by : (a.env.len ≡ 0) ⊎ (a.env.len ≡ 0 → ⊥) → AreDue (row ++ (a.n, fresh a.env.len) ∷ []) (h ++ events) from place
      by (inl none) =
          due-other (row ++ (a.n, fresh a.env.len) ∷ []) h events from place
          (none_granted from (here from same how ∙ ap not (eq_true a.env.len 0 none)))
          (subst (λ (k : ℕ). AreDue (row ++ (a.n, fresh k) ∷ []) h from place) (sym none)
          (due-empty row h from place a.n due))
      by (inr some) =
          due-grant row h events from place (pair number cap a)
          (one_granted from (here from same how ∙ ap not (unequal a.env.len 0 some))) due

  due-taken_one : (grants : List (List (ℕ × Granted))) (drawn : ℕ → ℕ) → a.env.from < length grants
      → ((from : ℕ) → AreDue (get_or grants from []) h from (drawn from))
      → (from : ℕ) → AreDue (get_or (grants_after grants a) from []) (h ++ events) from (drawn from)
  due-taken_one grants drawn inside due from = by (is_ask a.env.how) refl (cases_eq from a.env.from)
    where
      after : List (List (ℕ × Granted)) → Type 0
      after rows = AreDue (get_or rows from []) (h ++ events) from (drawn from)

      row : List (ℕ × Granted)
      row = get_or grants a.env.from [] ++ (a.n, fresh a.env.len) ∷ []

      by : (b : Bool) → is_ask a.env.how ≡ b → (from ≡ a.env.from) ⊎ (from ≡ a.env.from → ⊥)
          → AreDue (get_or (grants_after grants a) from []) (h ++ events) from (drawn from)
      by false how place =
          let same : grants_after grants a ≡ grants = rw how refl in
          rw same (due-other (get_or grants from []) h events from (drawn from) (none_granted from (eager how from))
          (due from))
      by true how (inl same) =
          let is : grants_after grants a ≡ set grants a.env.from row = rw how refl in
          rw is (rw (row-same grants a.env.from row from same inside)
          (subst (λ (r : List (ℕ × Granted)). AreDue (r ++ (a.n, fresh a.env.len) ∷ []) (h ++ events) from (drawn from))
          (ap (λ (k : ℕ). get_or grants k []) same)
          (new_grant (get_or grants from []) from (drawn from) same how (due from))))
      by true how (inr differ) =
          let is : grants_after grants a ≡ set grants a.env.from row = rw how refl in
          rw is (rw (row-other grants a.env.from row from differ)
          (due-other (get_or grants from []) h events from (drawn from) (none_granted from (elsewhere from differ))
          (due from)))

-- no pair is new, or this one
pub due-with : (h events : List Event) (number cap : ℕ) (taken : Option Arrival)
    → matched_pairs (h ++ events) ≡ matched_pairs h ++ option_to_list (option_map (pair number cap) taken)
    → (grants : List (List (ℕ × Granted))) (drawn : ℕ → ℕ) →
    ((a : Arrival) → taken ≡ Some a → a.env.from < length grants)
    → ((from : ℕ) → AreDue (get_or grants from []) h from (drawn from))
    → (from : ℕ) → AreDue (get_or (grants_with grants taken) from []) (h ++ events) from (drawn from)
due-with h events number cap None grown grants drawn inside due from =
    due-other (get_or grants from []) h events from (drawn from)
    (granted_more h (h ++ events) None grown from ∙ append-nil (granted h from)) (due from)
due-with h events number cap (Some a) grown grants drawn inside due from =
    due-taken_one h events number cap a grown grants drawn (inside a refl) due from
