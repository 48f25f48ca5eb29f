use Rattle.std.proofs.Common.{◌-◌}
use Rattle.nm_multi.proofs.threads.+fn-run_all-join+arg2+fn-run_all-join+arg3+run_all.Given as goal

abbrev pub decreases-join+arg2 : goal.decreases-join+arg2
decreases-join+arg2 g l = l.middle - l.first

abbrev pub decreases-join+arg3 : goal.decreases-join+arg3
decreases-join+arg3 g l = l.last - l.middle

abbrev pub decreases-run_all : goal.decreases-run_all
decreases-run_all g l = l.last - l.first
