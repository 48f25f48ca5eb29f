-- What is told at the first states that are at rest is told at an end, and nothing else is.
use Rattle.std.proofs.Common.{◌≡◌, ℕ, ◌<◌, Some, List, map}
use Rattle.std.specs.List.{slice_get}
use Rattle.nm_explored.specs.Successors.{spot_in}
use Rattle.nm_search.specs.Lists.{Has}
use Rattle.nm_explored.specs.Ends.{AreEndsAmong, AreOnlyEnds, all_told, told_at_end}
use Rattle.nm_explored.specs.Rests.{AreAtRest}
use Rattle.nm_explored.proofs.ends.ends_of.Given as goal

abbrev pub invariant-loop-k : goal.invariant-loop-k
invariant-loop-k l =
    record {
      all : (k : ℕ) → k < l.k → (ids : List ℕ) → slice_get l.search.states k ≡ Some ids →
          AreAtRest l.of.ranks l.of.lines.now (spot_in l.search.table ids) →
          Has (map told_at_end l.ends.items) (all_told l.of.lines.now (spot_in l.search.table ids) l.of.ranks);
      only : AreOnlyEnds l.of.ranks l.of.lines.now l.search l.ends.items;
      ways : AreEndsAmong l.of.eager l.of.ranks l.of.lines.now l.search l.ends.items;
    }
