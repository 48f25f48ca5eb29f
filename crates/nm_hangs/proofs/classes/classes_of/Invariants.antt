-- The classes so far.
use Rattle.std.proofs.Common.{◌≡◌, ℕ, ◌<◌, ◌≤◌, length}
use Rattle.nm_explored.specs.Successors.{spot_in}
use Rattle.nm_hangs.specs.Alike.{IsAlikeOr}
use Rattle.nm_hangs.proofs.classes.classes_of.Given as goal

abbrev pub invariant-loop-place : goal.invariant-loop-place
invariant-loop-place l = record {
  count : length l.all.items ≡ l.place;
  low : l.place ≤ length l.ids;
  alike : (j : ℕ) → j < l.place → IsAlikeOr l.lines j (spot_in l.table l.ids j) (spot_in l.table l.all.items j);
}
