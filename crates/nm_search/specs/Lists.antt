-- Lists that grow.
use Rattle.std.specs.Prelude.{◌≡◌, ◌⊎◌, ℕ, Some, List}
use Rattle.std.specs.List.{slice_get}

-- the list has this element
abbrev pub Has : {X : Type 0} → List X → X → Type 0
Has xs x = (k : ℕ) × (slice_get xs k ≡ Some x)

-- what stands in one list stands in the other one, at the same places
abbrev pub Extends : {X : Type 0} → List X → List X → Type 0
Extends {X} old new = (k : ℕ) (x : X) → slice_get old k ≡ Some x → slice_get new k ≡ Some x

-- each element of the new list stood in the old one, or is such a one
abbrev pub AddsOnly : {X : Type 0} → (X → Type 0) → List X → List X → Type 0
AddsOnly {X} P old new = (x : X) → Has new x → Has old x ⊎ P x

-- no element stands at two places
abbrev pub StandOnce : {X : Type 0} → List X → Type 0
StandOnce {X} xs = (j k : ℕ) (x : X) → slice_get xs j ≡ Some x → slice_get xs k ≡ Some x → j ≡ k
