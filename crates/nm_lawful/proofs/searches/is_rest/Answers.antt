-- All is told, and nothing can be done.
use Rattle.std.proofs.Common.{sym, ◌∙◌}
use Rattle.std.proofs.lemmas.Bool.{false≢true}
use Rattle.nm_lawful.specs.Moves.{report_lem}
use Rattle.nm_lawful.proofs.EndLemmas.{end_still, end_told, rest_end}
use Rattle.nm_lawful.proofs.searches.is_rest.Goals as goal

pub returns-then-is_told-clause-yes : goal.returns-then-is_told-clause-yes
returns-then-is_told-clause-yes c so all goes =
    rest_end c.args.report.lines.now (report_lem c.args.report.told.now c.args.report.waits.now) c.args.report.until c.args.state.now c.args.states.now all
    (c.is_told.ensures.yes c.if-is_told.true) (c.is_still.ensures.yes so) goes

pub returns-then-is_told-clause-no : goal.returns-then-is_told-clause-no
returns-then-is_told-clause-no c all goes end =
    c.is_still.ensures.no
    (end_still c.args.report.lines.now (report_lem c.args.report.told.now c.args.report.waits.now) c.args.report.until c.args.state.now c.args.states.now
    all end goes)

pub returns-else-is_told-clause-no : goal.returns-else-is_told-clause-no
returns-else-is_told-clause-no c all goes end =
    absurd (false≢true (sym c.if-is_told.false
    ∙ c.is_told.ensures.no
    (end_told c.args.report.lines.now (report_lem c.args.report.told.now c.args.report.waits.now) c.args.report.until c.args.state.now all end)))
