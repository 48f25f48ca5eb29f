-- All ranks so far can rest as is said.
use Rattle.nm_lawful.specs.Lawful.{RestsBelow}
use Rattle.nm_lawful.specs.Moves.{report_lem}
use Rattle.nm_lawful.proofs.judging.first_restless.Given as goal

abbrev pub invariant-loop-i : goal.invariant-loop-i
invariant-loop-i l = RestsBelow l.case.lines.now (report_lem l.case.told.now l.case.waits.now) l.case.ranks l.i
