use Rattle.std.proofs.Common.{◌≡◌, ℕ, vec_len, slice_index_or}
use Rattle.nm_eager.specs.Streams.{nothing_came}
use Rattle.nm_eager.specs.Senders.{nothing_received}
use Rattle.nm_eager.proofs.joining.Joiner.new.Given as goal

abbrev pub invariant-loop : goal.invariant-loop
invariant-loop l = (vec_len l.senders ≡ l.counter) × ((from : ℕ)
    → (slice_index_or l.senders.items from nothing_received).stream ≡ nothing_came)
