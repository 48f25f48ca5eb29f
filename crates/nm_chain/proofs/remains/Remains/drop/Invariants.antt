use Rattle.std.proofs.Common.{◌≡◌, ℕ, ◌<◌, ◌≤◌, true, false, get_or}
use Rattle.std.specs.Slots.{slots_filled, slots_len}
use Rattle.nm_chain.proofs.remains.Remains.drop.Given as goal

abbrev pub invariant-loop-i : goal.invariant-loop-i
invariant-loop-i g l = (slots_len l.table.slots ≡ slots_len l.initial.table.slots)
    × ((k : ℕ) → l.i ≤ k → k < slots_len l.table.slots
    → get_or (slots_filled l.table.slots) k false ≡ true)
    × ((k : ℕ) → k < l.i → get_or (slots_filled l.table.slots) k false ≡ false)
