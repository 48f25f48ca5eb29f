-- Which parcels go by box.
use Rattle.std.specs.Prelude.{ℕ, Bool, true, false}
use native.Mathlib.Decide.{dec_le}
use Rattle.nm_types.specs.declared.limits.TheConstants.{MAX_BOX}

-- the answer of a decision
abbrev pub answer : {P : Type 0} → Dec P → Bool
answer (yes _) = true
answer (no _) = false

-- a payload of so many bytes fits a box
abbrev pub is_short : ℕ → Bool
is_short length = answer (dec_le length MAX_BOX)
