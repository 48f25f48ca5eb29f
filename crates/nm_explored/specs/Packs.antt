-- States of ranks as numbers of their parts.
use Rattle.std.specs.Prelude.{◌≡◌, ℕ, Some, List, fold, map}
use Rattle.std.specs.List.{slice_get}
use Rattle.std.specs.Option.{option_map_or}
use Rattle.nm_outcomes.specs.declared.spots.deeds.Part.{Part}
use Rattle.nm_outcomes.specs.Parts.{parts_of, with_part}
use Rattle.nm_outcomes.specs.RankStates.{Spot, first_spot}

-- these are the numbers of the parts
abbrev pub AreNumbers : List Part → List ℕ → List Part → Type 0
AreNumbers parts row ps = map (λ n. slice_get parts n) row ≡ map Some ps

-- the state with a part more, if a part has this number
abbrev pub with_number : List Part → Spot → ℕ → Spot
with_number parts s n = option_map_or (with_part s) (slice_get parts n) s

-- the state of the parts with these numbers
abbrev pub spot_by : List Part → List ℕ → Spot
spot_by parts row = fold (with_number parts) first_spot row

-- each row has the numbers of the parts of a state
abbrev pub AreWhole : List Part → List (List ℕ) → Type 0
AreWhole parts rows =
    (k : ℕ) (row : List ℕ) → slice_get rows k ≡ Some row → (s : Spot) × AreNumbers parts row (parts_of s)
