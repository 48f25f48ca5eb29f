-- What counts is told of the first lines.
use Rattle.std.proofs.Common.{ℕ, ◌<◌}
use Rattle.std.specs.Prelude.{IsTrue, is_some}
use Rattle.nm_lawful.specs.Lawful.{has_run_lem}
use Rattle.nm_lawful.specs.Moves.{report_lem, told_at_lem}
use Rattle.nm_lawful.proofs.searches.is_told.Given as goal

abbrev pub invariant-loop-place : goal.invariant-loop-place
invariant-loop-place l =
    (p : ℕ) → p < l.place → IsTrue (is_some (told_at_lem (report_lem l.report.told.now l.report.waits.now) l.report.until p)) →
    IsTrue (has_run_lem l.report.lines.now l.state p)
