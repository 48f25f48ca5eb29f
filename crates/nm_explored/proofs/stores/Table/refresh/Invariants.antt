-- The first ones have become those with these numbers.
use Rattle.std.proofs.Common.{◌≡◌, ◌≤◌, length}
use Rattle.nm_explored.specs.Stores.{AreLow, AreOf}
use Rattle.nm_explored.proofs.PackLemmas.{AreFresh}
use Rattle.nm_explored.proofs.stores.Table.refresh.Given as goal

abbrev pub invariant-loop-place : goal.invariant-loop-place
invariant-loop-place l = record {
  fresh : AreLow l.self l.ids → length l.ids ≡ length l.fn.all.ids.items → AreOf l.self l.fn.all →
      AreFresh l.self l.ids l.all l.place;
  low : l.place ≤ length l.ids;
}
