use Rattle.std.proofs.Common.{◌≡◌, None, replicate}
use Rattle.nm_cells.proofs.build.empty_slots.Given as goal

abbrev pub invariant-loop-i : goal.invariant-loop-i
invariant-loop-i g l = l.slots.items ≡ replicate l._i None
