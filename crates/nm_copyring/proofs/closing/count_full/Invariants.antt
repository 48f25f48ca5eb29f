use Rattle.std.proofs.Common.{◌≡◌, ◌≤◌}
use Rattle.std.specs.Prelude.{slice_index}
use Rattle.std.specs.Slots.{slots_items}
use Rattle.nm_chain.specs.Total.{total, sign}
use Rattle.nm_copyring.proofs.closing.count_full.Given as goal

abbrev pub invariant-loop-i : goal.invariant-loop-i
invariant-loop-i l = (l.left ≡ total l.i (λ k. sign (slice_index (slots_items l.closed.words) k)))
    × (l.left ≤ l.i)
