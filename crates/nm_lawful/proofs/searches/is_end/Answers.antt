-- What is asked of an end, by whether all answers count.
use Rattle.std.proofs.Common.{sym, ◌∙◌}
use Rattle.nm_lawful.specs.Moves.{report_lem}
use Rattle.nm_lawful.proofs.EndLemmas.{end_moment, moment_end}
use Rattle.nm_lawful.proofs.searches.is_end.Goals as goal

pub returns-then-moment-clause-yes : goal.returns-then-moment-clause-yes
returns-then-moment-clause-yes c so goes =
    moment_end c.args.report.lines.now (report_lem c.args.report.told.now c.args.report.waits.now) c.args.report.until c.args.state.now
    (sym c.is_some-moment.ensures ∙ c.if-moment.true) (c.is_told.ensures.yes so)

pub returns-then-moment-clause-no : goal.returns-then-moment-clause-no
returns-then-moment-clause-no c goes end =
    c.is_told.ensures.no
    (end_moment c.args.report.lines.now (report_lem c.args.report.told.now c.args.report.waits.now) c.args.report.until c.args.state.now
    (sym c.is_some-moment.ensures ∙ c.if-moment.true) end)

pub returns-else-moment-clause-yes : goal.returns-else-moment-clause-yes
returns-else-moment-clause-yes c so goes =
    c.is_rest.ensures.yes so (sym c.is_some-moment.ensures ∙ c.if-moment.false) goes

pub returns-else-moment-clause-no : goal.returns-else-moment-clause-no
returns-else-moment-clause-no c goes end =
    c.is_rest.ensures.no (sym c.is_some-moment.ensures ∙ c.if-moment.false) goes end
