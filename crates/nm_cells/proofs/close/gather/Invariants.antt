use Rattle.std.proofs.Common.{◌≡◌, ℕ, ◌+◌, ◌≤◌, [], ◌++◌, map, length, Some, vec_capacity}
use Rattle.std.specs.Prelude.{slice_get}
use Rattle.nm_cells.specs.declared.port.Port.{Port}
use Rattle.nm_chain.specs.Spoken.{view}
use Rattle.nm_cells.specs.Ports.{knows}
use Rattle.nm_cells.proofs.close.gather.Given as goal

abbrev pub invariant-loop-port : goal.invariant-loop-port
invariant-loop-port g l = (l.seat.table_id ≡ l.board.shared.table_id) × (l.seat.me.1 ≡ [])
    × (map knows l.ports.items ++ l.seat.me.0.entries ≡ map knows l.fn.ports.items)
    × ((k : ℕ) (p : Port _) → slice_get l.ports.items k ≡ Some p
    → slice_get l.fn.ports.items k ≡ Some p) × (l.seat.me.0 ≡ view l.seat.me.0.entries)
    × (map (λ p. p.peers) l.ports.items ++ l.counted.items
    ≡ map (λ p. p.peers) l.fn.ports.items)
    × (length l.ports.items + length l.counted.items ≤ vec_capacity l.counted)

abbrev pub decreases-loop-port : goal.decreases-loop-port
decreases-loop-port g l = length l.ports.items
