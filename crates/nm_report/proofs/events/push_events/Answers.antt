use Rattle.std.proofs.Common.{refl, flat_map}
use Rattle.nm_report.specs.Events.{event_line}
use Rattle.std.proofs.lemmas.Option.{slice_get_read}
use Rattle.nm_report.proofs.Written.{next_written}
use Rattle.nm_report.proofs.events.push_events.Goals as goal

pub loop-event-preserved : goal.loop-event-preserved
loop-event-preserved c =
    let line = event_line c.args.rank in
    let same = c.as_slice-event-items.ensures in
    let event = c.event-item in
    let events = c.args.account.now.history.events in
    let found =
    slice_get_read events _ c.loop-event.event-index event.result refl
    (rw same at c.loop-event-test.true) (rw same at event.is) in
    next_written (flat_map line) (flat_map line) (line event.result) events _ event.result _ _ _ found refl
    c.in_ok-push_event.ensures.ok c.loop-event.invariant
