-- The first of some rules that is broken.
use Rattle.std.specs.Prelude.{◌≡◌, List, ◌∷◌, ◌++◌, All}

-- in this order c is the first whose rule is broken
pub record IsFirstBroken {C : Type 0} (Keeps : C → Type 0) (order : List C) (c : C) : Type 0 where
  pub earlier : List C
  pub later : List C
  pub split : order ≡ earlier ++ c ∷ later
  pub kept : All Keeps earlier
  pub broken : ¬ Keeps c
