use Rattle.std.proofs.Common.{◌≡◌, ◌≤◌, ◌<◌, ◌⊎◌, ◌+◌, ◌-◌}
use Rattle.nm_diagram.specs.Frames.{shown_count, up_to}
use Rattle.nm_diagram.proofs.frames.find_end.Given as goal

-- there is room up to the end, and none up to what is beyond
abbrev pub invariant-loop-beyond : goal.invariant-loop-beyond
invariant-loop-beyond l =
    record {
      apart : l.end < l.beyond;
      within : l.beyond ≤ l.asked.end + 1;
      few : shown_count (up_to l.asked l.end) l.ranks ≤ 20000;
      most : (l.beyond ≡ l.asked.end + 1) ⊎ (20000 < shown_count (up_to l.asked l.beyond) l.ranks);
    }

abbrev pub decreases-loop-beyond : goal.decreases-loop-beyond
decreases-loop-beyond l = l.beyond - l.end
