use Rattle.std.proofs.Common.{ℕ, ◌<◌}
use Rattle.nm_multi.specs.Programs.{HasMadeAll, SameTurns}
use Rattle.nm_multi.proofs.threads.complete.Given as goal

abbrev pub invariant-loop-who : goal.invariant-loop-who
invariant-loop-who l = SameTurns l.fn.turns l.turns × ((t : ℕ) → t < l.who → HasMadeAll l.turns t)
