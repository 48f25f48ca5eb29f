use Rattle.std.proofs.Common.{◌≡◌}
use Rattle.nm_match.specs.Buckets.{with_entries}
use Rattle.nm_match.proofs.waiting.pour.Given as goal

abbrev pub invariant-loop-order : goal.invariant-loop-order
invariant-loop-order l = with_entries l.by_age.entries l.order-iterator
    ≡ with_entries l.initial.by_age.entries l.initial.order-iterator
