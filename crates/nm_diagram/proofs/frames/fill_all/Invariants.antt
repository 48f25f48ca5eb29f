use Rattle.std.proofs.Common.{◌≡◌, drop}
use Rattle.nm_diagram.specs.Frames.{with_rows}
use Rattle.nm_diagram.proofs.frames.fill_all.Given as goal

abbrev pub invariant-loop-event : goal.invariant-loop-event
invariant-loop-event l =
    with_rows l.top l.rows (drop l.event-index l.events) ≡ with_rows l.top l.fn.rows l.events
