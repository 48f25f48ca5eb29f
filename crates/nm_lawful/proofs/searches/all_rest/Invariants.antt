-- The first ranks are at their end or held up.
use Rattle.std.proofs.Common.{ℕ, ◌<◌}
use Rattle.std.specs.Prelude.{IsTrue}
use Rattle.nm_lawful.specs.Lawful.{rests_lem}
use Rattle.nm_lawful.specs.Moves.{report_lem}
use Rattle.nm_lawful.proofs.searches.all_rest.Given as goal

abbrev pub invariant-loop-i : goal.invariant-loop-i
invariant-loop-i l = (i : ℕ) → i < l.i → IsTrue (rests_lem l.report.lines.now (report_lem l.report.told.now l.report.waits.now) l.state i)
