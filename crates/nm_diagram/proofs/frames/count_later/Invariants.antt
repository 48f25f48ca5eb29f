use Rattle.std.proofs.Common.{◌≡◌, ◌≤◌, take, count_by}
use Rattle.nm_diagram.specs.Frames.{is_later}
use Rattle.nm_diagram.proofs.frames.count_later.Given as goal

abbrev pub invariant-loop-event : goal.invariant-loop-event
invariant-loop-event l =
    record {
      counted : l.count ≡ count_by (is_later l.end) (take l.event-index l.events);
      within : l.count ≤
          l.event-index;
    }
