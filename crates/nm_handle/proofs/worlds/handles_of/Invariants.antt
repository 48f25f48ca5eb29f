use Rattle.std.proofs.Common.{◌≡◌, ◌+◌, ℕ, Some, length}
use Rattle.std.specs.Prelude.{slice_get}
use Rattle.std.specs.Arc.{arc_value}
use Rattle.std.specs.Vec.Iter.{into_iter_items}
use Rattle.nm_types.specs.declared.packets.Packet.{Packet}
use Rattle.nm_cells.specs.declared.port.Port.{Port}
use Rattle.nm_cells.specs.Ports.{IsNew}
use Rattle.nm_copyring.specs.declared.port.RingPort.{RingPort}
use Rattle.nm_copyring.specs.Ports as ring_port
use Rattle.nm_handle.specs.Standing.{AreNew}
use Rattle.nm_handle.specs.Worlds.{AreRanksFrom}
use Rattle.nm_handle.proofs.worlds.handles_of.Given as goal

abbrev pub invariant-loop-port : goal.invariant-loop-port
invariant-loop-port l = record {
  new : AreNew l.shape 0 l.handles.items;
  each : AreRanksFrom l.shape (arc_value l.shared.fabric) (arc_value l.shared.rings) 0 l.handles.items;
  cells : (k : ℕ) (p : Port Packet) → slice_get (into_iter_items l.port-iterator) k ≡ Some p →
      IsNew (arc_value l.shared.fabric) p (length l.handles.items + k);
  places : (k : ℕ) (p : RingPort) → slice_get (into_iter_items l.rings) k ≡ Some p →
      ring_port.IsNew (arc_value l.shared.rings) p (length l.handles.items + k);
  pairs : length (into_iter_items l.rings) ≡ length (into_iter_items l.port-iterator);
  count : length l.handles.items + length (into_iter_items l.port-iterator) ≡ l.shape.ranks;
}
