use Rattle.std.proofs.Common.{◌≡◌, ◌≤◌, drop}
use Rattle.nm_diagram.specs.Frames.{latest}
use Rattle.nm_diagram.proofs.frames.bottom_of_rank.Given as goal

abbrev pub invariant-loop-event : goal.invariant-loop-event
invariant-loop-event l =
    record {
      so_far : latest l.span l.bottom (drop l.event-index l.events) ≡ latest l.span l.found l.events;
      within : l.bottom ≤ 1000000;
    }
