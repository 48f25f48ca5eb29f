use Rattle.std.proofs.Common.{◌≡◌, ℕ, [], ◌++◌, map, length, Some}
use Rattle.std.specs.Prelude.{slice_get}
use Rattle.nm_chain.specs.Spoken.{view}
use Rattle.nm_copyring.specs.declared.port.RingPort.{RingPort}
use Rattle.nm_copyring.specs.Ports.{sees}
use Rattle.nm_copyring.proofs.closing.gather.Given as goal

abbrev pub invariant-loop-port : goal.invariant-loop-port
invariant-loop-port l = (l.seat.table_id ≡ l.r.board.shared.table_id)
    × (l.seat.me ≡ (view l.seat.me.0.entries, []))
    × (map sees l.ports.items ++ l.seat.me.0.entries ≡ map sees l.fn.ports.items)
    × ((k : ℕ) (p : RingPort) → slice_get l.ports.items k ≡ Some p
    → slice_get l.fn.ports.items k ≡ Some p)

abbrev pub decreases-loop-port : goal.decreases-loop-port
decreases-loop-port l = length l.ports.items
