use Rattle.std.proofs.Common.{refl, flat_map}
use Rattle.nm_history.specs.declared.events.Event.{Event}
use Rattle.nm_report.specs.Report.{ran_line}
use Rattle.std.proofs.lemmas.Option.{slice_get_read}
use Rattle.nm_report.proofs.Written.{next_written}
use Rattle.nm_report.proofs.reports.push_answers.Goals as goal

pub loop-event-preserved : goal.loop-event-preserved
loop-event-preserved c =
    let line = λ (event : Event). ran_line c.args.rank event.what in
    let same = c.as_slice-event-items.ensures in
    let event = c.event-item in
    let events = c.args.account.now.history.events in
    let found =
    slice_get_read events _ c.loop-event.event-index event.result refl
    (rw same at c.loop-event-test.true) (rw same at event.is) in
    next_written (flat_map line) (flat_map line) (line event.result) events _ event.result _ _ _ found refl
    c.in_ok-push_ran.ensures.ok c.loop-event.invariant
