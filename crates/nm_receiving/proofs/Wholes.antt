-- The bytes of messages that are here.
use Rattle.std.specs.Prelude.{IsSomeAnd}
use Rattle.std.proofs.Common.{◌≡◌, ℕ, ◌≤◌, ◌==◌, Option, Some, None, List, length, inl, inr, arith}
use Rattle.std.proofs.lemmas.List.Elements.{All-from_recursion}
use Rattle.nm_history.proofs.OnceLemmas.{find_among}
use Rattle.nm_eager.specs.Streams.{Incoming, IsStream, IsWholeIn, IsWholeOrLast, Stream, message_of}
use Rattle.nm_receiving.proofs.Lists.{some_from}
use Rattle.nm_types.proofs.OptionLemmas.{some_and}

-- a message with as many bytes as it has at most is whole
pub whole_in : (s : Stream) (n : ℕ) → IsStream s → IsSomeAnd (message_of s n) (λ m. m.len ≤ length m.bytes) →
    IsWholeIn s n
whole_in s n right full =
    let m = some_and (λ (m : Incoming). m.len ≤ length m.bytes) (message_of s n) full in
    some_from (λ (m : Incoming). length m.bytes ≡ m.len) (message_of s n) m.0 m.1
    (by m.0 m.2 (find_among (IsWholeOrLast s.count) (λ (m : Incoming). m.n == n) s.messages m.0
    (All-from_recursion (IsWholeOrLast s.count) s.messages right.finished) m.1))
  where
    by : (m : Incoming) → m.len ≤ length m.bytes → IsWholeOrLast s.count m → length m.bytes ≡ m.len
    by m full (inl whole) = whole
    by m full (inr less) = absurd (let below = less.0 in let h : ⊥ = omega arith in h)

-- the bytes that were taken are all of it
pub taken_whole : (s : Stream) (n : ℕ) (bytes : List ℕ) → IsSomeAnd (message_of s n) (λ m. bytes ≡ m.bytes) →
    IsWholeIn s n
    → IsSomeAnd (message_of s n) (λ m. (bytes ≡ m.bytes) × (length m.bytes ≡ m.len))
taken_whole s n bytes taken whole = by (message_of s n) taken whole
  where
    by : (o : Option Incoming) → IsSomeAnd o (λ m. bytes ≡ m.bytes) → IsSomeAnd o (λ m. length m.bytes ≡ m.len)
        → IsSomeAnd o (λ m. (bytes ≡ m.bytes) × (length m.bytes ≡ m.len))
    by None taken whole = absurd taken
    by (Some m) taken whole = (taken, whole)
