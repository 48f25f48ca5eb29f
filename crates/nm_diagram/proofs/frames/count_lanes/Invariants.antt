use Rattle.std.proofs.Common.{◌≤◌, drop, length}
use Rattle.std.specs.List.{AllByRecursion}
use Rattle.nm_diagram.specs.Frames.{IsSilent}
use Rattle.nm_diagram.proofs.frames.count_lanes.Given as goal

-- nothing is said of those behind
abbrev pub invariant-loop-lanes : goal.invariant-loop-lanes
invariant-loop-lanes l =
    record {
      within : l.lanes ≤ length l.ranks;
      asked : l.least ≤ l.lanes;
      silent : AllByRecursion IsSilent (drop l.lanes l.ranks);
    }

abbrev pub decreases-loop-lanes : goal.decreases-loop-lanes
decreases-loop-lanes l = l.lanes
