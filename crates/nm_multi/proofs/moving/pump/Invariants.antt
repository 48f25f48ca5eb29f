use Rattle.std.proofs.Common.{◌≡◌}
use Rattle.nm_multi.specs.Moves.{IsMoving}
use Rattle.nm_multi.proofs.moving.pump.Given as goal

abbrev pub invariant-loop : goal.invariant-loop
invariant-loop l = (l.moved ≡ l.counter) × IsMoving l.moved l.fn.rank l.rank
