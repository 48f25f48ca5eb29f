-- Which rank waits for which: the wait-for graph of the ranks.
use Rattle.std.specs.Prelude.{◌≡◌, ℕ, ◌+◌, ◌==◌, if◌then◌else◌, Option, Some, None, List, [], ◌∷◌}
use Rattle.std.specs.List.{slice_get}
use Rattle.nm_waits.specs.declared.waits.Wait.{Wait}
use Rattle.nm_waits.specs.Waits.{awaited}

-- the rank that a rank waits for, if it waits and its need names one
abbrev pub awaited_by : List Wait → ℕ → Option ℕ
awaited_by [] rank = None
awaited_by (wait ∷ waits) rank = if wait.rank == rank then awaited wait.need else awaited_by waits rank

-- the first rank is this one, and each waits for the next
pub record IsChain (waits : List Wait) (first : ℕ) (ranks : List ℕ) : Type 0 where
  pub starts : slice_get ranks 0 ≡ Some first
  pub each : (k rank next : ℕ) → slice_get ranks k ≡ Some rank → slice_get ranks (k + 1) ≡ Some next →
      awaited_by waits rank ≡ Some next
