-- Each rank's entry stands in one view at most, and is what the ledger has for that rank.
use Rattle.std.specs.Prelude.{◌≡◌, ◌≢◌, ℕ, List, [], ◌∷◌}
use mathlib.Core.Option.{some}
use lib.ListN.{get_elem?}
use Rattle.nm_chain.specs.declared.seats.views.View.{View}

module _ {E : Type 0} where
  -- the view with these entries, that was made at no sealing
  abbrev pub view : List E → View E
  view es = record { entries = es; seen = [] }

  -- no entry, but what these are
  abbrev pub sealed : View E → View E
  sealed v = record { entries = []; seen = v.entries }

  -- the first entry alone
  abbrev pub first_in : List E → List E
  first_in [] = []
  first_in (e ∷ es) = e ∷ []

  -- the entries but the first
  abbrev pub others_in : List E → List E
  others_in [] = []
  others_in (e ∷ es) = es

  -- the view with the first entry alone
  abbrev pub first_of : View E → View E
  first_of v = view (first_in v.entries)

  -- the view without its first entry
  abbrev pub others_of : View E → View E
  others_of v = view (others_in v.entries)

  -- P holds of each entry
  abbrev pub Each : (E → Type 0) → List E → Type 0
  Each P [] = Unit {0}
  Each P (e ∷ es) = P e × Each P es

  module _ (rank : E → ℕ) where
    -- no two of them are of one rank
    abbrev pub Apart : List E → Type 0
    Apart [] = Unit {0}
    Apart (e ∷ es) = Each (λ f. rank f ≢ rank e) es × Apart es

    -- the seat j speaks for the rank of this entry, and the ledger has this entry
    abbrev pub IsOf : (ℕ → E) → (ℕ → ℕ) → ℕ → E → Type 0
    IsOf ledger seat_of j e = (seat_of (rank e) ≡ j) × (ledger (rank e) ≡ e)

    -- each entry of a view is of a rank that its seat alone speaks for, and is what the ledger has
    pub record Spoken (ledger : ℕ → E) (views : List (View E)) : Type 0 where
      pub seat_of : ℕ → ℕ
      pub each : (j : ℕ) (v : View E) → get_elem? views j ≡ some v
          → Each (IsOf ledger seat_of j) v.entries × Apart v.entries
