-- Messages that stand at the places of their numbers.
use Rattle.std.proofs.Common.{◌≡◌, ℕ, ◌+◌, ◌-◌, ◌<◌, ◌≤◌, List, [], ◌∷◌, ◌++◌, length, Option, Some, None}
use Rattle.std.proofs.Common.{ap, ◌∙◌, refl, sym, append_assoc, arith, slice_get, set, zero, suc, replicate}
use Rattle.std.proofs.Common.{Bool, true, false, drop, length-append, ◌⊎◌, inl, inr, ap₂}
use Rattle.std.specs.List.{AllByRecursion, remove}
use Rattle.std.specs.Option.{is_some, option_map, option_to_list}
use Rattle.std.proofs.lemmas.Bool.{cases_lt}
use Rattle.std.proofs.lemmas.Grind.{flat_map-append}
use Rattle.std.proofs.lemmas.List.{append-nil, length-replicate, replicate-append-replicate}
use Rattle.nm_types.specs.declared.limits.TheConstants.{MAX_PACKETS}
use Rattle.nm_eager.specs.Streams.{Incoming, AreNumbered, since}
use Rattle.nm_eager.specs.Senders.{AreAtNumbers, AreAtPlaces, AreReceived, IsPut, placed, standing, whole_message}
use Rattle.nm_eager.specs.Senders.{begins_empty, first_place}
use Rattle.nm_types.proofs.OptionLemmas.{some_mapped}
use Rattle.nm_eager.proofs.MessageLemmas.{Lacks, Lacks-above, AreNumbered-wider, AreNumbered-push}
use Rattle.nm_eager.proofs.MessageLemmas.{AllByRecursion-push}

-- the numbers of what stands rise
pub numbered : (first : ℕ) (whole : List (Option Incoming)) → AreAtNumbers first whole
    → AreNumbered first (first + length whole) (standing whole)
numbered first [] at = omega arith
numbered first (None ∷ whole) at = AreNumbered-wider (first + 1) first (first + 1 + length whole)
    (first + length {A = Option Incoming} (None ∷ whole)) (standing whole) (omega arith) (omega arith)
    (numbered (first + 1) whole at.1)
numbered first (Some m ∷ whole) at =
    let here : m.n ≡ first = at.0 in (
      omega arith,
      AreNumbered-wider (first + 1) (m.n + 1) (first + 1 + length whole) (first + length (Some m ∷ whole))
          (standing whole) (omega arith) (omega arith) (numbered (first + 1) whole at.1),
    )

-- what stands at a place has its number
pub number_at : (first : ℕ) (whole : List (Option Incoming)) (i : ℕ) (m : Incoming) → AreAtNumbers first whole
    → slice_get whole i ≡ Some (Some m) → m.n ≡ first + i
number_at first [] i m at here = cc
number_at first (place ∷ whole) zero m at here =
    let same : place ≡ Some m = cc in
    let number : m.n ≡ first = rw same at at.0 in omega arith
number_at first (place ∷ whole) (suc i) m at here =
    let later = number_at (first + 1) whole i m at.1 here in omega arith

-- what stands at a place is one of the messages, and to empty the place is to remove it
pub stands_at : (whole : List (Option Incoming)) (i : ℕ) (m : Incoming) → slice_get whole i ≡ Some (Some m)
    → (j : ℕ) × (slice_get (standing whole) j ≡ Some m) × (standing (set whole i None) ≡ remove (standing whole) j)
stands_at [] i m here = absurd cc
stands_at (None ∷ whole) zero m here = absurd cc
stands_at (Some x ∷ whole) zero m here = let same : x ≡ m = cc in (0, ap Some same, refl)
stands_at (None ∷ whole) (suc i) m here = stands_at whole i m here
stands_at (Some x ∷ whole) (suc i) m here =
    let later = stands_at whole i m here in (suc later.0, later.1, ap (λ l. x ∷ l) later.2)

-- a number at whose place nothing stands has no message
pub lacks_at : (first : ℕ) (whole : List (Option Incoming)) (i n : ℕ) → AreAtNumbers first whole → n ≡ first + i
    → ((m : Incoming) → slice_get whole i ≡ Some (Some m) → ⊥) → Lacks n (standing whole)
lacks_at first [] i n at is none = tt
lacks_at first (None ∷ whole) zero n at is none = Lacks-above n (first + 1) (first + 1 + length whole)
    (standing whole) (omega arith) (numbered (first + 1) whole at.1)
lacks_at first (Some m ∷ whole) zero n at is none = absurd (none m refl)
lacks_at first (None ∷ whole) (suc i) n at is none = lacks_at (first + 1) whole i n at.1 (omega arith) none
lacks_at first (Some m ∷ whole) (suc i) n at is none =
    let here : m.n ≡ first = at.0 in
    (omega arith, lacks_at (first + 1) whole i n at.1 (omega arith) none)

-- an emptied place leaves the others at their numbers
pub numbers-emptied : (first : ℕ) (whole : List (Option Incoming)) (i : ℕ) → AreAtNumbers first whole
    → AreAtNumbers first (set whole i None)
numbers-emptied first [] i at = at
numbers-emptied first (place ∷ whole) zero at = (tt, at.1)
numbers-emptied first (place ∷ whole) (suc i) at = (at.0, numbers-emptied (first + 1) whole i at.1)

-- and so does a message at its place behind them
numbers-put : (first : ℕ) (whole : List (Option Incoming)) (gap : ℕ) (m : Incoming) → AreAtNumbers first whole
    → m.n ≡ first + length whole + gap → AreAtNumbers first (whole ++ replicate gap None ++ Some m ∷ [])
numbers-put first [] zero m at is = (omega arith, tt)
numbers-put first [] (suc gap) m at is = (tt, numbers-put (first + 1) [] gap m tt (omega arith))
numbers-put first (place ∷ whole) gap m at is =
    (at.0, numbers-put (first + 1) whole gap m at.1 (omega arith))

standing-empty : (gap : ℕ) → standing (replicate gap None) ≡ []
standing-empty zero = refl
standing-empty (suc gap) = standing-empty gap

-- which stands behind them then
standing-put : (whole : List (Option Incoming)) (gap : ℕ) (m : Incoming)
    → standing (whole ++ replicate gap None ++ Some m ∷ []) ≡ standing whole ++ m ∷ []
standing-put whole gap m =
    flat_map-append option_to_list (whole ++ replicate gap None) (Some m ∷ [])
    ∙ ap (λ (l : List Incoming). l ++ m ∷ []) (flat_map-append option_to_list whole (replicate gap None)
    ∙ ap (λ (l : List Incoming). standing whole ++ l) (standing-empty gap) ∙ append-nil (standing whole))

-- there are as many messages at places as there are places of their bytes
pub placed-length : (first : ℕ) (places : List (Option (List ℕ))) → length (placed first places) ≡ length places
placed-length first [] = refl
placed-length first (place ∷ places) = omega (arith, placed-length (first + 1) places)

-- a whole message's bytes at the place of its number are the message
pub placed-put : (first : ℕ) (places : List (Option (List ℕ))) (gap : ℕ) (m : Incoming)
    → m.n ≡ first + length places + gap → length m.bytes ≡ m.len
    → placed first (places ++ replicate gap None ++ Some m.bytes ∷ [])
    ≡ placed first places ++ replicate gap None ++ Some m ∷ []
placed-put first [] zero m is full =
    let number : first ≡ m.n = omega (arith, is) in
    ap₂ (λ (n len : ℕ). let of : Incoming = record { n = n; len = len; bytes = m.bytes } in Some of ∷ []) number full
placed-put first [] (suc gap) m is full =
    ap (λ (l : List (Option Incoming)). None ∷ l) (placed-put (first + 1) [] gap m (omega (arith, is)) full)
placed-put first (place ∷ places) gap m is full =
    ap (λ (l : List (Option Incoming)). option_map (whole_message first) place ∷ l)
    (placed-put (first + 1) places gap m (omega (arith, is)) full)

-- to put a whole message's bytes behind the others, at the place of its number, is to put the message
pub bytes-put : (first : ℕ) (old new : List (Option (List ℕ))) (m : Incoming) → first + length old ≤ m.n
    → length m.bytes ≡ m.len → new ≡ old ++ replicate (m.n - first - length old) None ++ Some m.bytes ∷ []
    → IsPut first (placed first old) (placed first new) m None
bytes-put first old new m behind full is = record {
  finished = λ _. (
    refl,
    rw (is, placed-length first old)
        (placed-put first old (m.n - first - length old) m (omega (arith, behind)) full),
  );
  unfinished = λ lacks. absurd (omega (arith, lacks, full));
}

-- an emptied place of bytes is an emptied place
pub placed-emptied : (first : ℕ) (places : List (Option (List ℕ))) (i : ℕ)
    → placed first (set places i None) ≡ set (placed first places) i None
placed-emptied first [] i = refl
placed-emptied first (place ∷ places) zero = refl
placed-emptied first (place ∷ places) (suc i) =
    ap (λ (l : List (Option Incoming)). option_map (whole_message first) place ∷ l)
    (placed-emptied (first + 1) places i)

-- where bytes stand a message stands
pub placed-at : (first : ℕ) (places : List (Option (List ℕ))) (i : ℕ) (o : Option (List ℕ))
    → slice_get places i ≡ Some o
    → (m : Option Incoming) × (slice_get (placed first places) i ≡ Some m) × (is_some o ≡ is_some m)
placed-at first [] i o here = absurd cc
placed-at first (place ∷ places) zero o here =
    let same : o ≡ place = cc in (
      option_map (whole_message first) place,
      refl,
      ap (λ (x : Option (List ℕ)). is_some x) same ∙ sym (some_mapped (whole_message first) place),
    )
placed-at first (place ∷ places) (suc i) o here = placed-at (first + 1) places i o here

-- and where a message stands its bytes do
pub placed-from : (first : ℕ) (places : List (Option (List ℕ))) (i : ℕ) (m : Incoming)
    → slice_get (placed first places) i ≡ Some (Some m) → slice_get places i ≡ Some (Some m.bytes)
placed-from first [] i m here = absurd cc
placed-from first (None ∷ places) zero m here = absurd cc
placed-from first (Some bytes ∷ places) zero m here =
    let same : whole_message first bytes ≡ m = cc in ap (λ (x : Incoming). Some (Some x.bytes)) same
placed-from first (None ∷ places) (suc i) m here = placed-from (first + 1) places i m here
placed-from first (Some bytes ∷ places) (suc i) m here = placed-from (first + 1) places i m here

-- empty places behind others
module _ (xs : List (Option (List ℕ))) (n : ℕ) (ys : List (Option (List ℕ))) (is : ys ≡ xs ++ replicate n None) where
  pub gap-more : ys ++ None ∷ [] ≡ xs ++ replicate (n + 1) None
  gap-more =
      rw (is, append_assoc xs (replicate n None) (None ∷ []))
      (ap (λ (l : List (Option (List ℕ))). xs ++ l) (replicate-append-replicate n 1 None))

  pub gap-length : length ys ≡ length xs + n
  gap-length = rw is (omega (
    arith,
    length-append xs (replicate n None),
    length-replicate {A = Option (List ℕ)} n None,
  ))

-- a place more that is full leaves the first one full, where no gap is before it
pub begins-full : (xs : List (Option (List ℕ))) (n : ℕ) (bytes : List ℕ) → begins_empty xs ≡ false → (xs ≡ [] → n ≡ 0)
    → begins_empty (xs ++ replicate n None ++ Some bytes ∷ []) ≡ false
begins-full [] n bytes b none = rw (none refl) refl
begins-full (None ∷ xs) n bytes b none = absurd cc
begins-full (Some x ∷ xs) n bytes b none = refl

-- one empty place more at the front
pub gone-more : (all xs : List (Option (List ℕ))) (n : ℕ) → all ≡ replicate n None ++ xs → begins_empty xs ≡ true
    → all ≡ replicate (n + 1) None ++ drop 1 xs
gone-more all [] n is b = absurd cc
gone-more all (None ∷ xs) n is b = is ∙ sym (append_assoc (replicate n None) (None ∷ []) xs)
    ∙ ap (λ (l : List (Option (List ℕ))). l ++ xs) (replicate-append-replicate n 1 None)
gone-more all (Some x ∷ xs) n is b = absurd cc

-- where all were empty, there are none
pub gone-all : (all xs : List (Option (List ℕ))) (n : ℕ) → all ≡ replicate n None ++ xs → length all ≤ n
    → begins_empty xs ≡ false
gone-all all [] n is le = refl
gone-all all (x ∷ xs) n is le =
    let size : length all ≡ n + length (x ∷ xs) = rw is (omega (
      arith,
      length-append (replicate n None) (x ∷ xs),
      length-replicate {A = Option (List ℕ)} n None,
    )) in
    absurd (omega (arith, size, le))

-- what stands at places has the numbers of these
pub numbers-placed : (first : ℕ) (places : List (Option (List ℕ))) → AreAtNumbers first (placed first places)
numbers-placed first [] = tt
numbers-placed first (None ∷ places) = (tt, numbers-placed (first + 1) places)
numbers-placed first (Some bytes ∷ places) = (refl, numbers-placed (first + 1) places)

-- where there are places, the first one stays
module _ (first next : ℕ) where
  pub first_place-standing : (places : List (Option (List ℕ)))
      → standing (placed (first_place first places next) places) ≡ standing (placed first places)
  first_place-standing [] = refl
  first_place-standing (place ∷ places) = refl

  pub first_place-behind : (places : List (Option (List ℕ))) → first + length places ≤ next
      → first_place first places next + length places ≤ next
  first_place-behind [] le = omega arith
  first_place-behind (place ∷ places) le = le

  pub first_place-above : (places : List (Option (List ℕ))) → first + length places ≤ next
      → first ≤ first_place first places next
  first_place-above [] le = omega arith
  first_place-above (place ∷ places) le = omega arith

  pub first_place-again : (places : List (Option (List ℕ)))
      → first_place first places next ≡ first_place (first_place first places next) places next
  first_place-again [] = refl
  first_place-again (place ∷ places) = refl

  pub first_place-none : (places : List (Option (List ℕ))) → places ≡ [] → first_place first places next ≡ next
  first_place-none [] is = refl
  first_place-none (place ∷ places) is = absurd cc

-- empty places at the front are let go
pub standing-gone : (first many now : ℕ) (places : List (Option (List ℕ))) → now ≡ first + many
    → standing (placed first (replicate many None ++ places)) ≡ standing (placed now places)
standing-gone first zero now places is = let same : now ≡ first = omega (arith, is) in rw same refl
standing-gone first (suc many) now places is = standing-gone (first + 1) many now places (omega (arith, is))

-- the first place is the first message's, so there are no more places than messages counted since that one
pub held-since : (first count : ℕ) (places : List (Option (List ℕ))) (u : Option Incoming)
    → begins_empty places ≡ false → first + length places ≤ count
    → length places ≤ since count (standing (placed first places) ++ option_to_list u)
held-since first count [] u b le = omega arith
held-since first count (None ∷ places) u b le = absurd cc
held-since first count (Some bytes ∷ places) u b le =
    let is : length (Some bytes ∷ places) ≤ count - first = omega (arith, le) in is

-- a message that was counted last is put
module _ (first count : ℕ) (whole new : List (Option Incoming)) (m : Incoming) (left : Option Incoming)
    (put : IsPut first whole new m left) (within : length m.bytes ≤ m.len) (numbers : AreAtNumbers first whole)
    (behind : first + length whole ≤ m.n) (last : m.n + 1 ≡ count) where
  below : AreNumbered 0 m.n (standing whole)
  below = AreNumbered-wider first 0 (first + length whole) m.n (standing whole) (omega arith) (omega arith)
      (numbered first whole numbers)

  pub put-received : (places : ℕ) → AllByRecursion (λ x. length x.bytes ≡ x.len) (standing whole) → count ≤ places
      → AreReceived count (standing new) left places
  put-received places all room = by (cases_lt (length m.bytes) m.len)
    where
      by : (length m.bytes < m.len) ⊎ (m.len ≤ length m.bytes) → AreReceived count (standing new) left places
      by (inl lacks) = let is = put.unfinished lacks in rw (is.0, is.1) (record {
        numbered = AreNumbered-wider 0 0 m.n count (standing whole) (omega arith) (omega arith) below;
        are_whole = all;
        last = record { last = last; behind = below; unfinished = lacks; kept = room };
      })
      by (inr full) =
          let finished : length m.bytes ≡ m.len = omega arith in
          let is = put.finished finished in
          rw (is.0, is.1, standing-put whole (m.n - first - length whole) m) (record {
            numbered = AreNumbered-push 0 m.n count (standing whole) m below (omega arith) (omega arith);
            are_whole = AllByRecursion-push (λ x. length x.bytes ≡ x.len) (standing whole) m all finished;
            last = tt;
          })

  pub put-places : count ≤ MAX_PACKETS → AreAtPlaces first count new left
  put-places few = by (cases_lt (length m.bytes) m.len)
    where
      by : (length m.bytes < m.len) ⊎ (m.len ≤ length m.bytes) → AreAtPlaces first count new left
      by (inl lacks) = let is = put.unfinished lacks in rw (is.0, is.1) (record {
        numbers = numbers;
        counted = omega arith;
        behind = behind;
        few = few;
      })
      by (inr full) =
          let finished : length m.bytes ≡ m.len = omega arith in
          let is = put.finished finished in
          rw (is.0, is.1) (record {
            numbers = numbers-put first whole (m.n - first - length whole) m numbers (omega arith);
            counted = omega (
              arith,
              length-append (whole ++ replicate (m.n - first - length whole) None) (Some m ∷ []),
              length-append whole (replicate (m.n - first - length whole) None),
              length-replicate {A = Option Incoming} (m.n - first - length whole) None,
            );
            behind = tt;
            few = few;
          })

  pub put-stream : standing new ++ option_to_list left ≡ standing whole ++ m ∷ []
  put-stream = by (cases_lt (length m.bytes) m.len)
    where
      by : (length m.bytes < m.len) ⊎ (m.len ≤ length m.bytes)
          → standing new ++ option_to_list left ≡ standing whole ++ m ∷ []
      by (inl lacks) = let is = put.unfinished lacks in rw (is.0, is.1) refl
      by (inr full) =
          let finished : length m.bytes ≡ m.len = omega arith in
          let is = put.finished finished in
          rw (is.0, is.1, standing-put whole (m.n - first - length whole) m) (append-nil (standing whole ++ m ∷ []))
