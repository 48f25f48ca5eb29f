use Rattle.std.proofs.Common.{◌≡◌, ℕ, ◌<◌, None, []}
use Rattle.std.specs.Prelude.{IfSome}
use Rattle.nm_transcript.specs.Orders.{HasNext, calls_of}
use Rattle.nm_transcript.proofs.orders.first.Given as goal

-- of the ranks so far
abbrev pub invariant-loop-rank : goal.invariant-loop-rank
invariant-loop-rank l =
    record {
      some : IfSome l.found (HasNext l.rest);
      none : l.found ≡ None → (rank : ℕ) → rank < l.rank → calls_of l.rest rank ≡ [];
    }
