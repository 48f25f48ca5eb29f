use Rattle.std.proofs.Common.{◌∙◌}
use Rattle.std.proofs.lemmas.Result.{err_from_is_err_and}
use Rattle.nm_trace.proofs.reading.read_events.Goals as goal

pub returns-in_err-event-clause-stops : goal.returns-in_err-event-clause-stops
returns-in_err-event-clause-stops c =
    let e = err_from_is_err_and c.from_residual.result c.from_residual.ensures.1 in
    rw (e.1, e.2) (λ p same.
    let first = c.in-Some.ensures in
    rw (c.loop-note.invariant.told p same, first.0)
    (c.in_err-event.ensures.stops p c.loop-note.events.items c.next_of.new.notes.items (first.1 ∙ same)))
