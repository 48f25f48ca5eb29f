-- A function that differs at one point.
use Rattle.std.specs.Prelude.{◌≡◌, ℕ}
use native.Mathlib.Decide.{ℕ_discrete}

-- y where the two numbers are equal, and else z
abbrev pub pick : {A : Type 0} {k j : ℕ} → Dec (j ≡ k) → A → A → A
pick (yes _) y z = y
pick (no _) y z = z

-- f, but y at k
abbrev pub update : {A : Type 0} → (ℕ → A) → ℕ → A → ℕ → A
update f k y j = pick (ℕ_discrete j k) y (f j)
