use Rattle.std.proofs.Common.{◌≡◌, ℕ, List}
use Rattle.std.specs.List.{filter}
use Rattle.nm_types.specs.declared.messages.Arrival.{Arrival}
use Rattle.nm_match.specs.Buckets.{AreBuckets, bucket_of}
use Rattle.nm_match.specs.Picks.{picks_of_arrival}
use Rattle.nm_match.proofs.AgeLemmas.{is_among}
use Rattle.nm_match.proofs.waiting.by_age.Given as goal

abbrev pub invariant-loop-index : goal.invariant-loop-index
invariant-loop-index l = (queue : List (ℕ × Arrival)) (next : ℕ)
    (are : AreBuckets picks_of_arrival queue next (bucket_of l.named.map)) →
    l.by_age.entries ≡ filter (is_among l.named.map are l.index) queue
