use Rattle.std.proofs.Common.{◌+◌, ◌-◌, ◌*◌}
use Rattle.nm_crews.proofs.forks.+halves.Given as goal

abbrev pub decreases-turns_by : goal.decreases-turns_by
decreases-turns_by g l = 4 * l.crews

abbrev pub decreases-halves : goal.decreases-halves
decreases-halves g l = 4 * (l.low + l.high) - 1

abbrev pub decreases-halves-join_mut+arg2 : goal.decreases-halves-join_mut+arg2
decreases-halves-join_mut+arg2 g l = 4 * l.low + 1

abbrev pub decreases-halves-join_mut+arg3 : goal.decreases-halves-join_mut+arg3
decreases-halves-join_mut+arg3 g l = 4 * l.high + 1
