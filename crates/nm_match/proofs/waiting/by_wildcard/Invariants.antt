use Rattle.std.proofs.Common.{◌≡◌, ℕ, List, ◌++◌}
use Rattle.nm_types.specs.declared.messages.Arrival.{Arrival}
use Rattle.nm_match.specs.Buckets.{AreBuckets, bucket_of}
use Rattle.nm_match.specs.Picks.{picks_of_arrival}
use Rattle.nm_match.specs.Wildcards.{AreByWildcard}
use Rattle.nm_match.proofs.waiting.by_wildcard.Given as goal

abbrev pub invariant-loop-order : goal.invariant-loop-order
invariant-loop-order l = (queue : List (ℕ × Arrival)) (next : ℕ) →
    AreBuckets picks_of_arrival queue next (bucket_of l.named.map) →
    (done : List (ℕ × Arrival)) × (done ++ l.order-iterator ≡ queue) × AreByWildcard done l.wildcards
