use Rattle.std.proofs.Common.{◌≡◌, ◌+◌, ◌-◌, ◌≤◌}
use Rattle.nm_kept.proofs.lists.Kept.forget_to.Given as goal

abbrev pub invariant-loop-number : goal.invariant-loop-number
invariant-loop-number g l =
    (l.self.items ≡ l.fn.self.items)
    × (l.self.forgotten ≡ l._number)
    × (l.self.places ≡ l.fn.self.places + (l._number - l.fn.self.forgotten))
    × (l.fn.self.forgotten ≤ l._number)
