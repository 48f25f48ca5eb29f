-- What the fields of a sender keep, step by step.
use Rattle.std.proofs.Common.{◌≡◌, ◌≢◌, ℕ, ◌+◌, ◌<◌, ◌≤◌, ◌==◌, true, false, cond, not, IfSome}
use Rattle.std.proofs.Common.{List, [], ◌∷◌, ◌++◌, length, map, filter, find, Option, Some, None}
use Rattle.std.proofs.Common.{◌⊎◌, ap, ◌∙◌, refl, sym, inl, inr, arith, slice_get}
use Rattle.std.proofs.Common.{Bool, IsTrue, length-append, length-set, replicate, set}
use Rattle.std.specs.List.{AllByRecursion, remove, sum_by}
use Rattle.std.specs.Option.{option_to_list, IsSomeAnd, is_some}
use Rattle.std.proofs.lemmas.List.{map-append, append-nil, length-replicate}
use Rattle.std.proofs.lemmas.List.Sums.{sum_by-append, sum_by-cons}
use Rattle.std.proofs.lemmas.List.Elements.{filter-append}
use Rattle.std.proofs.lemmas.List.Folds.{find-append}
use Rattle.std.proofs.lemmas.Bool.{cases_lt}
use Rattle.std.proofs.lemmas.Option.{slice_get_past}
use Rattle.nm_types.specs.declared.limits.TheConstants.{MAX_PACKETS}
use Rattle.nm_eager.specs.Streams.{IsStream, IsWholeOrLast, Incoming}
use Rattle.nm_eager.specs.Streams.{lacking, with_more, IsWholeIn}
use Rattle.nm_eager.specs.Streams.{Stream}
use Rattle.nm_eager.specs.Senders.{AreAtNumbers, AreAtPlaces, AreReceived, IsLast, IsPut, placed, standing}
use Rattle.nm_eager.specs.Senders.{first_place, next_put}
use Rattle.nm_eager.proofs.MessageLemmas.{Lacks, AreNumbered-wider, AreNumbered-push}
use Rattle.nm_eager.proofs.MessageLemmas.{AreNumbered-at, AreNumbered-filter, AllByRecursion-filter}
use Rattle.nm_eager.proofs.MessageLemmas.{AllByRecursion-push, AllByRecursion-at}
use Rattle.nm_eager.proofs.MessageLemmas.{Lacks-above, Lacks-below, find-lacks}
use Rattle.nm_eager.proofs.PlaceLemmas.{lacks_at, number_at, numbered, numbers-emptied, numbers-placed, stands_at}
use Rattle.nm_eager.proofs.PlaceLemmas.{first_place-above, first_place-behind, first_place-standing}
use Rattle.nm_eager.proofs.PlaceLemmas.{placed-emptied, placed-length, standing-gone}
use Rattle.nm_eager.proofs.PlaceLemmas.{put-places, put-received, put-stream}
use Rattle.nm_eager.proofs.MessageLemmas.{map-lacks, find-at, filter-at}
use Rattle.nm_types.proofs.NumberLemmas.{unequal, eq_true}

-- whole messages lack nothing
pub lacking-whole : (whole : List Incoming) → AllByRecursion (λ m. length m.bytes ≡ m.len) whole
    → sum_by lacking whole ≡ 0
lacking-whole [] h = refl
lacking-whole (m ∷ whole) h = omega (arith, sum_by-cons lacking m whole, lacking-whole whole h.1)

pub lacking-none_behind : (whole : List Incoming) → AllByRecursion (λ m. length m.bytes ≡ m.len) whole
    → sum_by lacking (whole ++ []) ≡ 0
lacking-none_behind whole h = rw append-nil (lacking-whole whole h)

each_whole : (count : ℕ) (whole : List Incoming) → AllByRecursion (λ m. length m.bytes ≡ m.len) whole
    → AllByRecursion (IsWholeOrLast count) whole
each_whole count [] h = tt
each_whole count (m ∷ whole) h = (inl h.0, each_whole count whole h.1)

module _ (count : ℕ) (whole : List Incoming) (spare : ℕ) where
  pub lacking-none : AreReceived count whole None spare → sum_by lacking (whole ++ []) ≡ 0
  lacking-none r = lacking-none_behind whole r.are_whole

  pub lacking-some : (m : Incoming) → AreReceived count whole (Some m) spare
      → sum_by lacking (whole ++ m ∷ []) ≡ lacking m
  lacking-some m r = omega (arith, sum_by-append lacking whole (m ∷ []), lacking-whole whole r.are_whole)

  pub lacking-open : (u : Option Incoming) (m : Incoming) → AreReceived count whole u spare → u ≡ Some m
      → sum_by lacking (whole ++ option_to_list u) ≡ lacking m
  lacking-open None m r e = cc
  lacking-open (Some v) m r e = let same : v ≡ m = cc in rw (← same) (lacking-some v r)

  -- where nothing is missing, no message is unfinished
  pub none-closed : (u : Option Incoming) → AreReceived count whole u spare
      → sum_by lacking (whole ++ option_to_list u) ≡ 0 → u ≡ None
  none-closed None r h = refl
  none-closed (Some m) r h =
      let e = lacking-some m r in
      let lt = r.last.unfinished in
      absurd (omega arith)

  -- the messages' numbers rise, and only the last one counted is unfinished
  pub is_stream : (u : Option Incoming) → AreReceived count whole u spare
      → IsStream (record { count = count; messages = whole ++ option_to_list u })
  is_stream None r = rw append-nil (record {
    numbered = r.numbered;
    finished = each_whole count whole r.are_whole;
  })
  is_stream (Some m) r =
      let here = r.last.last in
      record {
        numbered = AreNumbered-push 0 m.n count whole m r.last.behind (omega arith) (omega arith);
        finished = AllByRecursion-push (IsWholeOrLast count) whole m (each_whole count whole r.are_whole)
            (inr (r.last.unfinished, here));
      }

  -- one message more is counted
  pub counts : (u : Option Incoming) → AreReceived count whole u spare → u ≡ None
      → AreReceived (count + 1) whole u spare
  counts None r e = record {
    numbered = AreNumbered-wider 0 0 count (count + 1) whole (omega arith) (omega arith) r.numbered;
    are_whole = r.are_whole;
    last = tt;
  }
  counts (Some m) r e = cc

  -- where bytes are missing, a message is unfinished
  pub some-open : (u : Option Incoming) → AreReceived count whole u spare
      → 0 < sum_by lacking (whole ++ option_to_list u) → ((x : Incoming) → u ≡ Some x → ⊥) → ⊥
  some-open None r h never = let e = lacking-none r in omega arith
  some-open (Some m) r h never = never m refl

  -- to go on with the unfinished message is to go on with the one counted last
  pub goes_on : (m : Incoming) (n : ℕ) (bytes : List ℕ) → AreReceived count whole (Some m) spare
      → n + 1 ≡ count → whole ++ record m { bytes = m.bytes ++ bytes } ∷ []
      ≡ map (with_more n bytes) (whole ++ m ∷ [])
  goes_on m n bytes r e =
      let here = r.last.last in
      let same : m.n ≡ n = omega arith in
      rw (
        map-append (with_more n bytes) whole (m ∷ []),
        map-lacks n bytes whole
            (Lacks-below n 0 m.n whole (omega arith) r.last.behind),
        eq_true m.n n same,
      )

  -- a whole message is found by its number
  pub finds : (u : Option Incoming) (n k : ℕ) (m : Incoming) → AreReceived count whole u spare
      → slice_get whole k ≡ Some m → m.n ≡ n → find (λ x. x.n == n) (whole ++ option_to_list u) ≡ Some m
  finds u n k m r at q = find-append (λ x. x.n == n) whole (option_to_list u)
      ∙ rw (find-at n 0 count whole k m r.numbered at q)

  -- the message is whole
  pub is_whole-at : (u : Option Incoming) (k : ℕ) (m : Incoming) → AreReceived count whole u spare
      → slice_get whole k ≡ Some m → length m.bytes ≡ m.len
  is_whole-at u k m r at = AllByRecursion-at (λ x. length x.bytes ≡ x.len) whole k m r.are_whole at

  -- a message that isn't among the whole ones isn't whole
  pub not_whole : (u : Option Incoming) (n : ℕ) → AreReceived count whole u spare → Lacks n whole
      → IsSomeAnd (find (λ x. x.n == n) (whole ++ option_to_list u)) (λ m. length m.bytes ≡ m.len) → ⊥
  not_whole None n r h w =
      rw (find-append (λ x. x.n == n) whole [], find-lacks n whole h) at w
  not_whole (Some v) n r h w =
      let unfinished = r.last.unfinished in
      let w' = rw (find-append (λ x. x.n == n) whole (v ∷ []), find-lacks n whole h) at w in
      (elim (v.n == n) as (λ b. IsSomeAnd (cond b (Some v) None) (λ m. length m.bytes ≡ m.len) → ⊥) [
        | true ↦ λ whole'. omega arith
        | false ↦ λ none. none
      ]) w'

  -- an unfinished message stays the last
  stays : (spare' : ℕ) (p : Incoming → Bool) (u : Option Incoming) → spare ≤ spare'
      → IfSome u (IsLast count whole spare) → IfSome u (IsLast count (filter p whole) spare')
  stays spare' p None more h = tt
  stays spare' p (Some m) more h =
      let kept = h.kept in
      record {
        last = h.last;
        behind = AreNumbered-filter p 0 m.n whole h.behind;
        unfinished = h.unfinished;
        kept = omega arith;
      }

  -- to take a whole message keeps the others as they are
  pub takes : (spare' : ℕ) (u : Option Incoming) (n k : ℕ) (m : Incoming)
      → AreReceived count whole u spare → slice_get whole k ≡ Some m → m.n ≡ n → spare ≤ spare'
      → AreReceived count (remove whole k) u spare'
  takes spare' u n k m r at q more =
      rw (← filter-at n 0 count whole k m r.numbered at q) (record {
        numbered = AreNumbered-filter (λ x. not (x.n == n)) 0 count whole r.numbered;
        are_whole =
            AllByRecursion-filter (λ x. length x.bytes ≡ x.len) (λ x. not (x.n == n)) whole r.are_whole;
        last = stays spare' (λ x. not (x.n == n)) u more r.last;
      })

  -- to remove it is to leave out its number
  pub leaves_out : (u : Option Incoming) (n k : ℕ) (m : Incoming) → AreReceived count whole u spare
      → slice_get whole k ≡ Some m → m.n ≡ n → remove whole k ++ option_to_list u
      ≡ filter (λ x. not (x.n == n)) (whole ++ option_to_list u)
  leaves_out None n k m r at q =
      rw (filter-append (λ x. not (x.n == n)) whole [], filter-at n 0 count whole k m r.numbered at q)
  leaves_out (Some v) n k m r at q =
      let below = AreNumbered-at 0 v.n whole k m r.last.behind at in
      let other : v.n ≢ n = omega arith in
      rw (
        filter-append (λ x. not (x.n == n)) whole (v ∷ []),
        filter-at n 0 count whole k m r.numbered at q,
        unequal v.n n other,
      )

-- with more places
pub more_places : (count : ℕ) (whole : List Incoming) (u : Option Incoming) (places more : ℕ) → places ≤ more
    → AreReceived count whole u places → AreReceived count whole u more
more_places count whole None places more le r =
    record { numbered = r.numbered; are_whole = r.are_whole; last = tt }
more_places count whole (Some m) places more le r =
    let last = r.last in
    record {
      numbered = r.numbered;
      are_whole = r.are_whole;
      last = record {
        last = last.last;
        behind = last.behind;
        unfinished = last.unfinished;
        kept = omega (arith, last.kept, le);
      };
    }

-- where the first places are empty, they may be let go
pub gone-places : (first many now count : ℕ) (before places : List (Option (List ℕ))) (u : Option Incoming)
    → before ≡ replicate many None ++ places → now ≡ first + many
    → AreAtPlaces first count (placed first before) u → AreAtPlaces now count (placed now places) u
gone-places first many now count before places u is at-now at =
    let all : length before ≡ many + length places = rw is (omega (
      arith,
      length-append (replicate many None) places,
      length-replicate {A = Option (List ℕ)} many None,
    )) in
    let sizes : (length (placed first before) ≡ length before) × (length (placed now places) ≡ length places) =
    (placed-length first before, placed-length now places) in
    record {
      numbers = numbers-placed now places;
      counted = omega (arith, at.counted, all, sizes.0, sizes.1, at-now);
      behind = behind u at.behind;
      few = at.few;
    }
  where
    behind : (o : Option Incoming) → IfSome o (λ m. first + length (placed first before) ≤ m.n)
        → IfSome o (λ m. now + length (placed now places) ≤ m.n)
    behind None h = tt
    behind (Some m) h =
        let all : length before ≡ many + length places = rw is (omega (
          arith,
          length-append (replicate many None) places,
          length-replicate {A = Option (List ℕ)} many None,
        )) in
        omega (arith, h, all, placed-length first before, placed-length now places, at-now)

-- the message that is put next is behind all places
pub next_put-behind : (first count : ℕ) (places : List (Option (List ℕ))) (u : Option Incoming)
    → AreAtPlaces first count (placed first places) u → first + length places ≤ next_put count u
next_put-behind first count places None at =
    let le : first + length places ≤ count = omega (arith, at.counted, placed-length first places) in le
next_put-behind first count places (Some m) at =
    let le : first + length places ≤ m.n = omega (arith, at.behind, placed-length first places) in le

-- it was counted, or is counted next
pub next_put-counted : (count : ℕ) (whole : List Incoming) (u : Option Incoming) (places : ℕ)
    → AreReceived count whole u places → next_put count u ≤ count
next_put-counted count whole None places r = let le : count ≤ count = omega arith in le
next_put-counted count whole (Some m) places r = let le : m.n ≤ count = omega (arith, r.last.last) in le

-- which is the unfinished one, if there is one
pub next_put-unfinished : (count : ℕ) (u : Option Incoming) → IfSome u (λ m. next_put count u ≤ m.n)
next_put-unfinished count None = tt
next_put-unfinished count (Some m) = let le : m.n ≤ m.n = omega arith in le

-- where there are no places, the first one may be that of the message that is put next
module _ (first count places : ℕ) (items : List (Option (List ℕ))) (u : Option Incoming)
    (received : AreReceived count (standing (placed first items)) u places)
    (at : AreAtPlaces first count (placed first items) u) (next now : ℕ) (le : first + length items ≤ next)
    (is : now ≡ first_place first items next) where
  pub moved-standing : standing (placed now items) ≡ standing (placed first items)
  moved-standing = rw is (first_place-standing first next items)

  pub moved-above : first ≤ now
  moved-above = rw is (first_place-above first next items le)

  pub moved-behind : now + length (placed now items) ≤ next
  moved-behind = omega (arith, is, first_place-behind first next items le, placed-length now items)

  pub moved-below : now + length items ≤ next
  moved-below = rw is (first_place-behind first next items le)

  pub moved-received : (more : ℕ) → places ≤ more → AreReceived count (standing (placed now items)) u more
  moved-received more le' =
      rw moved-standing (more_places count (standing (placed first items)) u places more le' received)

  pub moved-places : next ≤ count → IfSome u (λ m. next ≤ m.n) → AreAtPlaces now count (placed now items) u
  moved-places counted unfinished = record {
    numbers = numbers-placed now items;
    counted = omega (arith, moved-behind, counted);
    behind = behind u unfinished;
    few = at.few;
  }
    where
      behind : (o : Option Incoming) → IfSome o (λ m. next ≤ m.n)
          → IfSome o (λ m. now + length (placed now items) ≤ m.n)
      behind None h = tt
      behind (Some m) h = omega (arith, moved-behind, h)

-- what stands at the places, of which each whole message has the one of its number
module _ (first count : ℕ) (whole : List (Option Incoming)) (places : ℕ) (u : Option Incoming)
    (received : AreReceived count (standing whole) u places) (at : AreAtPlaces first count whole u) (n : ℕ) where
  abbrev stream : Stream
  stream = record { count = count; messages = standing whole ++ option_to_list u }

  -- where none stands, none is whole
  none_whole : Lacks n (standing whole) → IsWholeIn stream n → ⊥
  none_whole lacks = not_whole count (standing whole) places u n received lacks

  -- what was let go is not whole
  pub before_first : n < first → IsWholeIn stream n → ⊥
  before_first lt = none_whole (Lacks-above n first (first + length whole) (standing whole) (omega (arith, lt))
      (numbered first whole at.numbers))

  pub from_first : IsWholeIn stream n → first ≤ n
  from_first is = by (cases_lt n first)
    where
      by : (n < first) ⊎ (first ≤ n) → first ≤ n
      by (inl lt) = absurd (before_first lt is)
      by (inr le) = le

  pub before_answer : n < first → (IsTrue false → IsWholeIn stream n) × (IsWholeIn stream n → IsTrue false)
  before_answer lt = ((λ no. cc), λ is. absurd (before_first lt is))

  module _ (i : ℕ) (place : n ≡ first + i) where
    -- a message that stands at its place is whole
    pub whole_there : (m : Incoming) → slice_get whole i ≡ Some (Some m) → IsWholeIn stream n
    whole_there m here =
        let j = stands_at whole i m here in
        let number : m.n ≡ n = let is = number_at first whole i m at.numbers here in omega arith in
        rw (finds count (standing whole) places u n j.0 m received j.1 number)
        (is_whole-at count (standing whole) places u j.0 m received j.1)

    -- where none stands, none is whole
    pub none_there : ((m : Incoming) → slice_get whole i ≡ Some (Some m) → ⊥) → IsWholeIn stream n → ⊥
    none_there none = none_whole (lacks_at first whole i n at.numbers place none)

    -- what stands at its place tells whether it is whole
    pub whole_answer : (o : Option Incoming) (b : Bool) → slice_get whole i ≡ Some o → b ≡ is_some o
        → (IsTrue b → IsWholeIn stream n) × (IsWholeIn stream n → IsTrue b)
    whole_answer None b here e = rw e ((λ no. cc), λ is. absurd (none_there (λ m h. cc) is))
    whole_answer (Some m) b here e = rw e ((λ _. whole_there m here), λ _. refl)

    -- where it has no place, it is not
    pub absent_answer : length whole ≤ i
        → (IsTrue false → IsWholeIn stream n) × (IsWholeIn stream n → IsTrue false)
    absent_answer past =
        let none : slice_get whole i ≡ None = slice_get_past whole i past in
        ((λ no. cc), λ is. absurd (none_there (λ m h. cc) is))

    -- a whole message stands at its place
    pub stands_there : IsWholeIn stream n → (m : Incoming) × (slice_get whole i ≡ Some (Some m))
    stands_there is = by (slice_get whole i) refl
      where
        by : (o : Option (Option Incoming)) → slice_get whole i ≡ o
            → (m : Incoming) × (slice_get whole i ≡ Some (Some m))
        by None e = absurd (none_there (λ m h. cc) is)
        by (Some None) e = absurd (none_there (λ m h. cc) is)
        by (Some (Some m)) e = (m, e)

    -- to empty its place is to take it
    module _ (m : Incoming) (here : slice_get whole i ≡ Some (Some m)) where
      number : m.n ≡ n
      number = let is = number_at first whole i m at.numbers here in omega arith

      pub message_there : find (λ x. x.n == n) (standing whole ++ option_to_list u) ≡ Some m
      message_there =
          let j = stands_at whole i m here in finds count (standing whole) places u n j.0 m received j.1 number

      pub emptied-stream : standing (set whole i None) ++ option_to_list u
          ≡ filter (λ x. not (x.n == n)) (standing whole ++ option_to_list u)
      emptied-stream =
          let j = stands_at whole i m here in
          rw j.2 (leaves_out count (standing whole) places u n j.0 m received j.1 number)

      pub emptied-received : AreReceived count (standing (set whole i None)) u places
      emptied-received =
          let j = stands_at whole i m here in
          rw j.2 (takes count (standing whole) places places u n j.0 m received j.1 number (omega arith))

      pub emptied-places : AreAtPlaces first count (set whole i None) u
      emptied-places =
          let same = length-set whole i None in
          record {
            numbers = numbers-emptied first whole i at.numbers;
            counted = omega (arith, same, at.counted);
            behind = behind u at.behind;
            few = at.few;
          }
        where
          behind : (o : Option Incoming) → IfSome o (λ x. first + length whole ≤ x.n)
              → IfSome o (λ x. first + length (set whole i None) ≤ x.n)
          behind None h = tt
          behind (Some x) h = omega (arith, length-set whole i None)

-- a whole message is taken, and the empty places at the front are let go
module _ (first count : ℕ) (items : List (Option (List ℕ))) (places : ℕ) (u : Option Incoming)
    (received : AreReceived count (standing (placed first items)) u places)
    (at : AreAtPlaces first count (placed first items) u) (n i : ℕ) (place : n ≡ first + i) (m : Incoming)
    (here : slice_get (placed first items) i ≡ Some (Some m)) (new : List (Option (List ℕ))) (many now : ℕ)
    (gone : set items i None ≡ replicate many None ++ new) (is : now ≡ first + many) where
  taken-standing : standing (placed now new) ≡ standing (set (placed first items) i None)
  taken-standing = sym (standing-gone first many now new is)
      ∙ ap (λ (l : List (Option (List ℕ))). standing (placed first l)) (sym gone)
      ∙ ap (λ (l : List (Option Incoming)). standing l) (placed-emptied first items i)

  pub taken-received : (more : ℕ) → places ≤ more → AreReceived count (standing (placed now new)) u more
  taken-received more le = rw taken-standing (more_places count (standing (set (placed first items) i None)) u
      places more le (emptied-received first count (placed first items) places u received at n i place m here))

  pub taken-places : AreAtPlaces now count (placed now new) u
  taken-places = gone-places first many now count (set items i None) new u gone is
      (rw (placed-emptied first items i)
      (emptied-places first count (placed first items) places u received at n i place m here))

  pub taken-stream : standing (placed now new) ++ option_to_list u
      ≡ filter (λ x. not (x.n == n)) (standing (placed first items) ++ option_to_list u)
  taken-stream = rw taken-standing
      (emptied-stream first count (placed first items) places u received at n i place m here)

-- the unfinished message goes on, and is put
module _ (first count : ℕ) (whole new : List (Option Incoming)) (places : ℕ) (m more : Incoming)
    (left : Option Incoming) (bytes : List ℕ) (received : AreReceived count (standing whole) (Some m) places)
    (at : AreAtPlaces first count whole (Some m)) (is : more ≡ record m { bytes = m.bytes ++ bytes })
    (size : length bytes ≤ lacking m) (put : IsPut first whole new more left) where
  same_number : more.n ≡ m.n
  same_number = ap (λ (x : Incoming). x.n) is

  within : length more.bytes ≤ more.len
  within = let open' = received.last.unfinished in rw is (omega (arith, length-append m.bytes bytes))

  behind : first + length whole ≤ more.n
  behind = let here = at.behind in rw same_number here

  last : more.n + 1 ≡ count
  last = let here = received.last.last in rw same_number here

  pub carried-received : AreReceived count (standing new) left places
  carried-received = put-received first count whole new more left put within at.numbers behind last places
      received.are_whole received.last.kept

  pub carried-places : AreAtPlaces first count new left
  carried-places = put-places first count whole new more left put within at.numbers behind last at.few

  pub carried-stream : (n : ℕ) → n + 1 ≡ count
      → standing new ++ option_to_list left ≡ map (with_more n bytes) (standing whole ++ m ∷ [])
  carried-stream n e = put-stream first count whole new more left put within at.numbers behind last
      ∙ rw is (goes_on count (standing whole) places m n bytes received e)

-- a message begins, and is put
module _ (first count : ℕ) (whole new : List (Option Incoming)) (m : Incoming) (left : Option Incoming) (len : ℕ)
    (bytes : List ℕ) (numbers : AreAtNumbers first whole) (counted : first + length whole ≤ count)
    (is : m ≡ record { n = count; len = len; bytes = bytes }) (size : length bytes ≤ len)
    (put : IsPut first whole new m left) where
  fits : length m.bytes ≤ m.len
  fits = rw is size

  after : first + length whole ≤ m.n
  after = rw is counted

  next : m.n + 1 ≡ count + 1
  next = rw is refl

  pub begun-received : (places : ℕ) → AllByRecursion (λ x. length x.bytes ≡ x.len) (standing whole)
      → count < places → AreReceived (count + 1) (standing new) left places
  begun-received places all room =
      put-received first (count + 1) whole new m left put fits numbers after next places all (omega arith)

  pub begun-places : count < MAX_PACKETS → AreAtPlaces first (count + 1) new left
  begun-places limit = put-places first (count + 1) whole new m left put fits numbers after next (omega arith)

  pub begun-stream : standing new ++ option_to_list left
      ≡ standing whole ++ record { n = count; len = len; bytes = bytes } ∷ []
  begun-stream = put-stream first (count + 1) whole new m left put fits numbers after next ∙ rw is refl

-- one message more is counted
pub counts-places : (first count : ℕ) (whole : List (Option Incoming)) (u : Option Incoming)
    → AreAtPlaces first count whole u → count < MAX_PACKETS → AreAtPlaces first (count + 1) whole u
counts-places first count whole u at limit =
    let counted = at.counted in
    record { numbers = at.numbers; counted = omega arith; behind = at.behind; few = omega arith }
