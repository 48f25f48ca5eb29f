-- The answers before the lower moment can be told, and those before the higher one can't.
use Rattle.std.proofs.Common.{◌-◌}
use Rattle.nm_lawful.specs.Moves.{report_lem}
use Rattle.nm_lawful.specs.Searches.{AreBounds}
use Rattle.nm_lawful.proofs.judging.first_unlawful.Given as goal

abbrev pub decreases-loop-high : goal.decreases-loop-high
decreases-loop-high l = l.high - l.low

abbrev pub invariant-loop-high : goal.invariant-loop-high
invariant-loop-high l = AreBounds l.case.lines.now (report_lem l.case.told.now l.case.waits.now) l.case.ranks l.low l.high
