use Rattle.std.proofs.Common.{◌≡◌, ◌++◌, length, map}
use Rattle.std.specs.Arc.{arc_value}
use Rattle.std.specs.List.{AllByRecursion}
use Rattle.std.specs.Vec.Iter.{into_iter_items}
use Rattle.nm_process.specs.Playing.{AllInRange}
use Rattle.nm_rank.specs.declared.journal.erased.Erased.{Erased}
use Rattle.nm_world.specs.declared.players.Player.{Player}
use Rattle.nm_world.specs.Runs.{InPlace}
use Rattle.nm_calls.specs.Calling.{CallsView, ahead, gave, shown}
use Rattle.nm_handle.specs.declared.handles.Handle.{Handle}
use Rattle.nm_handle.specs.Ends.{SomeFailed}
use Rattle.nm_handle.specs.Standing.{Stands}
use Rattle.nm_handle.specs.Worlds.{AreRanksFrom}
use Rattle.nm_handle.proofs.ends.players_of.Given as goal

abbrev pub invariant-loop-handle : goal.invariant-loop-handle
invariant-loop-handle l = record {
  place : InPlace shown gave l.fn.shape (arc_value l.shared.fabric) (arc_value l.shared.rings) 0 l.players.items;
  range : AllByRecursion (λ (x : Player CallsView Erased). AllInRange x.source.ranks (ahead x.source)) l.players.items;
  same : l.players.items ++ map (λ (h : Handle). h.player) (into_iter_items l.handle-iterator)
      ≡ map (λ (h : Handle). h.player) l.fn.handles.items;
  each : AreRanksFrom l.fn.shape (arc_value l.shared.fabric) (arc_value l.shared.rings) (length l.players.items)
      (into_iter_items l.handle-iterator);
  stands : AllByRecursion Stands (into_iter_items l.handle-iterator);
  failed : SomeFailed (into_iter_items l.handle-iterator) → SomeFailed l.fn.handles.items;
}
