use Rattle.std.proofs.Common.{◌≡◌, ◌≤◌}
use Rattle.std.specs.Slots.{slots_items}
use Rattle.nm_cells.specs.AtClose.{vacant}
use Rattle.nm_cells.proofs.close.count_vacant.Given as goal

abbrev pub invariant-loop-cell : goal.invariant-loop-cell
invariant-loop-cell g l = (l.home ≡ vacant (slots_items l.closed.slots) l.cell)
    × (l.home ≤ l.cell)
