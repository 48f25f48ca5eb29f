use Rattle.std.proofs.Common.{◌≡◌, ℕ, ◌+◌, Some, Vec, Global, length}
use Rattle.std.specs.Prelude.{slice_get}
use Rattle.std.specs.Vec.Iter.{into_iter_items}
use Rattle.nm_process.specs.Places.{ArePlaces}
use Rattle.nm_world.specs.ByRank.{AreScripts}
use Rattle.nm_world.proofs.by_rank.scripts_by_rank.Given as goal

-- those of the ranks so far
abbrev pub invariant-loop-own : goal.invariant-loop-own
invariant-loop-own l = record {
  scripts : AreScripts l.fn.ranks l.lines 0 l.scripts.items;
  many : length l.scripts.items + length (into_iter_items l.own-iterator) ≡ l.fn.ranks;
  places : (i : ℕ) (own : Vec ℕ Global) → slice_get (into_iter_items l.own-iterator) i ≡ Some own →
      ArePlaces l.lines (length l.scripts.items + i) own.items;
}
