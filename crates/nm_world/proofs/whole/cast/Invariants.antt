use Rattle.std.proofs.Common.{◌≡◌, ◌+◌, ◌<◌, ◌++◌, length, map}
use Rattle.std.specs.List.{All}
use Rattle.std.specs.Vec.Iter.{into_iter_items}
use Rattle.nm_cells.specs.declared.port.Fabric.{Fabric}
use Rattle.nm_cells.specs.declared.port.Port.{Port}
use Rattle.nm_copyring.specs.declared.port.Rings.{Rings}
use Rattle.nm_world.specs.declared.players.Player.{Player}
use Rattle.nm_world.specs.Players.{BeginsAt}
use Rattle.nm_world.specs.Runs.{InPlace, NewInOrder}
use Rattle.nm_types.specs.declared.packets.Packet.{Packet}
use Rattle.nm_world.proofs.whole.cast.Given as goal

abbrev pub invariant-loop-port : goal.invariant-loop-port
invariant-loop-port g l = record {
  ranks : All (λ (p : Port Packet). p.rank < l.shape.ranks) (into_iter_items l.port-iterator);
  pairs : length (into_iter_items l.rings) ≡ length (into_iter_items l.port-iterator);
  owns : length (into_iter_items l.sources) ≡ length (into_iter_items l.port-iterator);
  begins : All (BeginsAt g.S.Source.shows g.S.Source.gives l.shape.ranks) (into_iter_items l.sources);
  sources : map (λ (x : Player _ _). x.source) l.players.items ++ into_iter_items l.sources ≡ l.fn.sources.items;
  place : (f : Fabric Packet) (r : Rings) → (f.ranks ≡ l.shape.ranks) × (r.ranks ≡ l.shape.ranks) →
      NewInOrder f r 0 l.fn.ports.items l.fn.rings.items →
      NewInOrder f r (length l.players.items) (into_iter_items l.port-iterator) (into_iter_items l.rings)
      × InPlace g.S.Source.shows g.S.Source.gives l.shape f r 0 l.players.items;
  count : length l.players.items + length (into_iter_items l.port-iterator) ≡ length l.fn.ports.items;
}
