-- The same numbers are counted or stand apart, and fewer are above the next one each time.
use Rattle.std.proofs.Common.{◌≡◌, ◌-◌, ℕ}
use Rattle.nm_receiving.specs.StreamViews.{counts}
use Rattle.nm_receiving.proofs.streams.counted.Counted.absorb.Given as goal

abbrev pub invariant-loop : goal.invariant-loop
invariant-loop l =
    (m : ℕ) → counts l.self.next l.self.apart.blocks m ≡ counts l.fn.self.next l.fn.self.apart.blocks m

abbrev pub decreases-loop : goal.decreases-loop
decreases-loop l = 18446744073709551615 - l.self.next
