-- A world that C makes.
use Rattle.std.specs.Prelude.{◌≡◌, ◌⊎◌, ℕ, List, length, IfErr, IfOk, OnErr, Result}
use denote.RawPtr.{Ptr}
use Rattle.nm_types.specs.Sizes.{IsShape, Sizes}
use Rattle.nm_c.specs.Codes.{number_said}
use Rattle.nm_c.specs.declared.codes.Code.{Code}
use Rattle.nm_c.specs.declared.codes.Code.TheVariants as code

-- the sizes that C gives
abbrev pub sizes_of : ℕ → ℕ → ℕ → Sizes
sizes_of ranks cells eager = record { ranks = ranks; cells = cells; eager = eager }

-- a world of these sizes was made
abbrev pub IsMade : ℕ → ℕ → ℕ → Code → Type 0
IsMade ranks cells eager c = IsShape (sizes_of ranks cells eager) × (c ≡ code.Done)

-- why none was: a size is out of range, or memory was refused
abbrev pub IsNoWorld : ℕ → ℕ → ℕ → Code → Type 0
IsNoWorld ranks cells eager e =
    ((e ≡ code.BadWorld) × (¬ IsShape (sizes_of ranks cells eager))) ⊎ (e ≡ code.Memory)

-- an export answered this number, that of whether it made a world; where it made none nothing is written
pub record AnswersNew (cells eager : ℕ) (old new : List Ptr) (n : ℕ) : Type 0 where
  pub called : Result Code Code
  pub number : n ≡ number_said called
  pub made : IfOk called (IsMade (length old) cells eager)
  pub cause : IfErr called (IsNoWorld (length old) cells eager)
  pub same : OnErr called (new ≡ old)
