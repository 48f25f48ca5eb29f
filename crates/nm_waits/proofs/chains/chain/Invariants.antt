-- So far each waits for the next one, and this is the last.
use Rattle.std.proofs.Common.{◌≡◌, ℕ, ◌+◌, Some, length}
use Rattle.std.specs.List.{slice_get}
use Rattle.nm_waits.specs.Chains.{IsChain}
use Rattle.nm_waits.proofs.chains.chain.Given as goal

abbrev pub invariant-loop-step : goal.invariant-loop-step
invariant-loop-step l =
    record {
      chain : IsChain l.waits l.first l.ranks.items;
      last : (k : ℕ) → k + 1 ≡ length l.ranks.items → slice_get l.ranks.items k ≡ Some l.last;
    }
