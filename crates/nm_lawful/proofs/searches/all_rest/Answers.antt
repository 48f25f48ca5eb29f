-- Each rank is looked at.
use Rattle.nm_lawful.specs.Moves.{report_lem}
use Rattle.nm_lawful.proofs.EndLemmas.{rest_behind}
use Rattle.nm_lawful.proofs.searches.all_rest.Goals as goal

pub returns-clause-yes : goal.returns-clause-yes
returns-clause-yes c so i =
    let past = c.loop-i-test.false in
    rest_behind c.args.report.lines.now (report_lem c.args.report.told.now c.args.report.waits.now) c.args.state.now c.as_slice-i-end.result.now c.loop-i.i i
    c.as_slice-i-end.ensures.value past c.loop-i.invariant
