-- How many bytes are missing after a step of a stream.
use Rattle.std.proofs.Common.{◌≡◌, ℕ, ◌+◌, ◌-◌, ◌≤◌, ◌==◌, not, List}
use Rattle.std.proofs.Common.{[], ◌∷◌, length, map, filter, find}
use Rattle.std.proofs.Common.{refl, inl, inr, arith, length-append}
use Rattle.std.specs.List.{AllByRecursion, sum_by}
use Rattle.std.specs.Option.{IsSomeAnd}
use Rattle.std.proofs.lemmas.List.Sums.{sum_by-append, sum_by-cons}
use Rattle.std.proofs.lemmas.Bool.{cases_eq}
use Rattle.nm_eager.specs.Streams.{Incoming, Stream, missing, lacking, with_more, begun, carried_on}
use Rattle.nm_eager.specs.Streams.{without, AreNumbered, IsWholeOrLast, IsStream, IsWholeIn}
use Rattle.nm_eager.proofs.MessageLemmas.{AreNumbered-low, Lacks-above, filter-lacks}
use Rattle.nm_types.proofs.NumberLemmas.{unequal, eq_true}

pub missing-begun : (stream : Stream) (len : ℕ) (bytes : List ℕ)
    → missing (begun stream len bytes) ≡ missing stream + (len - length bytes)
missing-begun stream len bytes =
    omega (
      arith,
      sum_by-append lacking stream.messages (record {
        n = stream.count;
        len = len;
        bytes = bytes;
      } ∷ []),
    )

none_left : (low : ℕ) (ms : List Incoming) → AreNumbered low low ms → ms ≡ []
none_left low [] r = refl
none_left low (m ∷ ms) r = let later = AreNumbered-low (m.n + 1) low ms r.1 in absurd (omega arith)

goes_on : (count n low : ℕ) (bytes : List ℕ) (ms : List Incoming) → AreNumbered low count ms
    → AllByRecursion (IsWholeOrLast count) ms → n + 1 ≡ count → length bytes ≤ sum_by lacking ms
    → sum_by lacking (map (with_more n bytes) ms) + length bytes ≡ sum_by lacking ms
goes_on count n low bytes [] r f last l = omega arith
goes_on count n low bytes (m ∷ ms) r f last l = elim (cases_eq m.n n) [
  | inl same ↦
      let end' : m.n + 1 ≡ count = omega arith in
      let last_one = none_left count ms (rw end' at r.1) in
      let only = rw last_one at l in
      rw (last_one, eq_true m.n n same) (omega (arith, only, length-append m.bytes bytes))
  | inr other ↦
      let whole : length m.bytes ≡ m.len = (elim f.0 [ inl w ↦ w | inr u ↦ absurd (other (omega arith)) ])
      in
      let here = sum_by-cons lacking m ms in
      let later = goes_on count n (m.n + 1) bytes ms r.1 f.1 last (omega arith) in
      rw (unequal m.n n other) (omega (
        arith,
        later,
        here,
        sum_by-cons lacking m
            (map (with_more n bytes) ms),
      ))
]

pub missing-carried_on : (stream : Stream) (n : ℕ) (bytes : List ℕ) → IsStream stream → n + 1 ≡ stream.count
    → length bytes ≤ missing stream → missing (carried_on stream n bytes) + length bytes ≡ missing stream
missing-carried_on stream n bytes is last l = goes_on stream.count n 0 bytes stream.messages is.numbered
    is.finished last l

takes : (count n low : ℕ) (ms : List Incoming) → AreNumbered low count ms
    → IsSomeAnd (find (λ m. m.n == n) ms) (λ m. length m.bytes ≡ m.len)
    → sum_by lacking (filter (λ m. not (m.n == n)) ms) ≡ sum_by lacking ms
takes count n low [] r w = absurd w
takes count n low (m ∷ ms) r w = elim (cases_eq m.n n) [
  | inl same ↦
      let whole = rw (eq_true m.n n same) at w in
      rw (eq_true m.n n same, filter-lacks n ms (Lacks-above n (m.n + 1) count ms (omega arith) r.1))
      (omega (arith, sum_by-cons lacking m ms))
  | inr other ↦
      let later = takes count n (m.n + 1) ms r.1 (rw (unequal m.n n other) at w) in
      rw (unequal m.n n other) (omega (
        arith,
        later,
        sum_by-cons lacking m ms,
        sum_by-cons lacking m (filter (λ x. not (x.n == n)) ms),
      ))
]

pub missing-without : (stream : Stream) (n : ℕ) → IsStream stream → IsWholeIn stream n
    → missing (without stream n) ≡ missing stream
missing-without stream n is w = takes stream.count n 0 stream.messages is.numbered w
