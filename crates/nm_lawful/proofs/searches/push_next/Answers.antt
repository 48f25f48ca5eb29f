-- Only the state that the move leads to was added.
use Rattle.nm_lawful.specs.Moves.{next_lem, report_lem}
use Rattle.nm_search.proofs.ListLemmas.{pushed_only}
use Rattle.nm_lawful.proofs.searches.push_next.Goals as goal

pub returns-in_ok-push-clause-only : goal.returns-in_ok-push-clause-only
returns-in_ok-push-clause-only c =
    pushed_only
    (next_lem c.args.report.lines.now (report_lem c.args.report.told.now c.args.report.waits.now) c.args.report.until c.args.state.now c.args.by)
    c.in_ok-t.field-0 c.args.states.now.items c.push.new.self.items c.in-Some.t c.in_ok-t.ensures c.in-Some.is
    c.in_ok-push.ensures.items
