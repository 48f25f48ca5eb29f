use Rattle.std.proofs.Common.{◌≡◌, ℕ, List}
use Rattle.nm_types.specs.declared.messages.Arrival.{Arrival}
use Rattle.nm_match.specs.Buckets.{AreBuckets, bucket_of}
use Rattle.nm_match.specs.Picks.{fits_picks, picks_of_arrival}
use Rattle.nm_match.proofs.BestLemmas.{first_of}
use Rattle.nm_match.proofs.waiting.best.Given as goal

abbrev pub invariant-loop-index : goal.invariant-loop-index
invariant-loop-index l = (queue : List (ℕ × Arrival)) (next : ℕ)
    (are : AreBuckets picks_of_arrival queue next (bucket_of l.named.map)) →
    l.best ≡ first_of l.named.map are (fits_picks l.wanted) l.index
