-- The first numbers.
use Rattle.std.proofs.Common.{◌≡◌, ◌≤◌}
use Rattle.std.specs.List.{range_with_len}
use Rattle.nm_explored.proofs.stores.places.Given as goal

abbrev pub invariant-loop-k : goal.invariant-loop-k
invariant-loop-k l = record {
  are : l.all.items ≡ range_with_len 0 l.k;
  low : l.k ≤ l.count;
}
