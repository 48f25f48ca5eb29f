-- Lists that grow.
use Rattle.std.specs.Prelude.{◌⊎◌, List, Contains}

-- what one list has, the other one has, too
abbrev pub Keeps : {X : Type 0} → List X → List X → Type 0
Keeps {X} old new = (x : X) → Contains old x → Contains new x

-- what the new list has, the old one has, or it is such a one
abbrev pub AddsOnly : {X : Type 0} → (X → Type 0) → List X → List X → Type 0
AddsOnly {X} P old new = (x : X) → Contains new x → Contains old x ⊎ P x
