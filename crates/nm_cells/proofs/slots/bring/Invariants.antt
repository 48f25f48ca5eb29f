use Rattle.std.proofs.Common.{◌≡◌, ◌++◌, drop, take}
use Rattle.nm_cells.proofs.slots.bring.Given as goal

abbrev pub invariant-loop-i : goal.invariant-loop-i
invariant-loop-i g l = (l.seat.table_id ≡ l.fn.seat.table_id) × (l.seat.id ≡ l.fn.seat.id)
    × (l.seat.me.0 ≡ l.fn.seat.me.0)
    × (l.seat.me.1 ≡ drop l._i l.fn.seat.me.1 ++ take l._i l.fn.seat.me.1)
