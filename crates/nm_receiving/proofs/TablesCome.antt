-- What the tables keep when a message comes.
use Rattle.std.specs.Prelude.{IsSomeAnd}
use Rattle.std.proofs.Common.{◌≡◌, ◌≢◌, ℕ, ◌+◌, ◌<◌, Bool, true, false, nat_eq, Option, Some, None, List, [], ◌∷◌, ◌++◌}
use Rattle.std.proofs.Common.{length, get_or, refl, sym, ◌∙◌, ap, subst, ◌⊎◌, inl, inr, arith, length-append}
use Rattle.std.specs.List.{All, IsDistinct, slice_get}
use Rattle.std.specs.Map.{keys_of}
use Rattle.std.specs.Option.{option_map_or}
use Rattle.std.proofs.lemmas.Bool.{cases_eq, false_from_ne_true, true≢false}
use Rattle.std.proofs.lemmas.List.Elements.{All-push, All-weaker}
use Rattle.std.proofs.lemmas.Option.{same_Some, slice_get_within}
use Rattle.nm_types.specs.declared.messages.Arrival.{Arrival}
use Rattle.nm_types.specs.declared.messages.Post as post
use Rattle.nm_history.specs.declared.events.Event.{Event}
use Rattle.nm_history.specs.declared.plain.Pair.{Pair}
use Rattle.nm_history.specs.Completion.{is_taken}
use Rattle.nm_history.specs.Matching.{matched_pairs}
use Rattle.nm_history.specs.Sends.{is_ask, posts}
use Rattle.nm_eager.specs.Streams.{message_of, missing}
use Rattle.nm_rndv.specs.Grants.{Granted, fresh, grant_in}
use Rattle.nm_receiving.specs.declared.receipts.Receipt.{Receipt}
use Rattle.nm_receiving.specs.declared.receipts.Receive.{Receive}
use Rattle.nm_receiving.specs.Kept.{AreGrantedFor, TablesAgree, HasBytes, HasOpen, IsCleared, IsGranted, IsHere}
use Rattle.nm_receiving.specs.Kept.{IsJoined}
use Rattle.nm_receiving.specs.Receipts.{ReceivingView, granted_to, receipt_of, receipts_from, stream_of}
use Rattle.nm_receiving.proofs.Grants.{Granted_now, grant_among, grant_new, grant_still, granted_cases}
use Rattle.nm_receiving.proofs.Grants.{granted_length, granted_new, once_push, open_new, open_still}
use Rattle.nm_receiving.proofs.Lists.{some_from}
use Rattle.std.proofs.Math.ListN.{set}
use Rattle.std.proofs.lemmas.List.{length-set}
use Rattle.std.proofs.lemmas.Option.{slice_get_past}
use Rattle.nm_eager.specs.Streams.{Stream, nothing_came}
use Rattle.nm_receiving.specs.Steps.{has_taken, rows_from, with_taken}
use Rattle.nm_receiving.proofs.Coming.{came, came_here, came_other, newcomer, taken_by}
use Rattle.nm_receiving.proofs.Lists.{row-other, row-same}
use Rattle.nm_receiving.proofs.Stood.{Stood}
use Rattle.nm_receiving.proofs.Tables.{awaited_before, bytes_along, still_cleared, untaken_before}
use Rattle.nm_types.proofs.ListLemmas.{get_set_other, get_set_same}
use Rattle.nm_types.proofs.OptionLemmas.{some_and}

-- the stream of a rank with one message more
pub record IsLonger (s s' : Stream) (a : Arrival) : Type 0 where
  pub count : s'.count ≡ s.count + 1
  pub others : (k : ℕ) → k ≢ a.n → message_of s' k ≡ message_of s k
  pub finished : missing s ≡ 0
  pub asked : is_ask a.env.how ≡ true → missing s' ≡ 0
  pub eager : is_ask a.env.how ≡ false → IsSomeAnd (message_of s' a.n) (IsJoined (newcomer a))

-- what came, where this rank's stream is longer
pub record AreLonger (v : ReceivingView) (streams : List Stream) (a : Arrival) : Type 0 where
  pub length' : length streams ≡ length v.streams
  pub same : (from : ℕ) → from ≢ a.env.from → get_or streams from nothing_came ≡ stream_of v from
  pub longer : IsLonger (stream_of v a.env.from) (get_or streams a.env.from nothing_came) a

module _ (v : ReceivingView) (h h' : List Event) (stood : Stood v h) (streams : List Stream) (a : Arrival)
    (taker : Option ℕ)
    (tables : TablesAgree v h) (inside : a.env.from < length v.receipts) (granted : a.env.from < length v.grants)
    (next : a.n ≡ length (receipts_from v a.env.from)) (long : AreLonger v streams a) where
  abbrev v1 : ReceivingView
  v1 = came v streams a taker

  here1 : receipt_of v1 a.env.from a.n ≡ Some (newcomer a)
  here1 = came_here v h stood streams 0 a inside next

  other1 : (i k : ℕ) → (i ≡ a.env.from → k ≡ a.n → ⊥) → receipt_of v1 i k ≡ receipt_of v i k
  other1 i k differ = came_other v h stood streams 0 a inside next i k differ

  was_none : receipt_of v a.env.from a.n ≡ None
  was_none = slice_get_past (receipts_from v a.env.from) a.n (omega (arith, next))

  abbrev Here : ℕ → ℕ → Type 0
  Here i k = (i ≡ a.env.from) × (k ≡ a.n)

  place : (i k : ℕ) → Here i k ⊎ (i ≡ a.env.from → k ≡ a.n → ⊥)
  place i k = by (cases_eq i a.env.from) (cases_eq k a.n)
    where
      by : (i ≡ a.env.from) ⊎ (i ≡ a.env.from → ⊥) → (k ≡ a.n) ⊎ (k ≡ a.n → ⊥) →
          Here i k ⊎ (i ≡ a.env.from → k ≡ a.n → ⊥)
      by (inl same) (inl same') = inl (same, same')
      by (inl same) (inr other) = inr (λ _ is. other is)
      by (inr other) right = inr (λ is _. other is)

  -- a message that was there is another one
  other_than : (i k : ℕ) (s : Receipt) → receipt_of v i k ≡ Some s → i ≡ a.env.from → k ≡ a.n → ⊥
  other_than i k s is same same' =
      let there : receipt_of v a.env.from a.n ≡ Some s =
      ap (λ (j : ℕ). receipt_of v a.env.from j) (sym same') ∙ ap (λ (j : ℕ). receipt_of v j k) (sym same) ∙ is in
      let none = was_none in let h' : ⊥ = cc in h'

  found : (i k : ℕ) (s : Receipt) → receipt_of v1 i k ≡ Some s →
      (Here i k × (newcomer a ≡ s)) ⊎ (receipt_of v i k ≡ Some s)
  found i k s is = by (place i k)
    where
      by : Here i k ⊎ (i ≡ a.env.from → k ≡ a.n → ⊥) → (Here i k × (newcomer a ≡ s)) ⊎ (receipt_of v i k ≡ Some s)
      by (inl same) = inl (
        same,
        same_Some (newcomer a) s
            (sym here1 ∙ ap (λ (j : ℕ). receipt_of v1 a.env.from j) (sym same.1) ∙ ap (λ (j : ℕ). receipt_of v1 j k)
            (sym same.0) ∙ is),
      )
      by (inr differ) = inr (sym (other1 i k differ) ∙ is)

  -- the messages in the streams
  joined_still : (i k : ℕ) → (i ≡ a.env.from → k ≡ a.n → ⊥) → message_of (stream_of v1 i) k ≡ message_of
      (stream_of v i) k
  joined_still i k differ = by (cases_eq i a.env.from)
    where
      by : (i ≡ a.env.from) ⊎ (i ≡ a.env.from → ⊥) → message_of (stream_of v1 i) k ≡ message_of (stream_of v i) k
      by (inl same) =
          ap (λ (j : ℕ). message_of (stream_of v1 j) k) same ∙ long.longer.others k (differ same)
          ∙ ap (λ (j : ℕ). message_of (stream_of v j) k) (sym same)
      by (inr other) = ap (λ (s : Stream). message_of s k) (long.same i other)

  taken_inside : (b : Arrival) → taken_by taker a ≡ Some b → b.env.from < length v.grants
  taken_inside b is = by taker is
    where
      by : (o : Option ℕ) → taken_by o a ≡ Some b → b.env.from < length v.grants
      by None is = absurd (let h' : ⊥ = cc in h')
      by (Some k) is = let same : a ≡ b = cc in subst (λ (c : Arrival). c.env.from < length v.grants) same granted

  granted_still : (from n : ℕ) (g : Granted) → grant_in (granted_to v from) n ≡ Some g →
      grant_in (granted_to v1 from) n ≡ Some g
  granted_still from n g is = by (granted_cases v.grants (taken_by taker a) from taken_inside)
    where
      by : (granted_to v1 from ≡ granted_to v from) ⊎ Granted_now v.grants (taken_by taker a) from →
          grant_in (granted_to v1 from) n ≡ Some g
      by (inl same) = ap (λ (row : List (ℕ × Granted)). grant_in row n) same ∙ is
      by (inr now) = ap (λ (row : List (ℕ × Granted)). grant_in row n) now.4
          ∙ grant_still (granted_to v from) ((now.0.n, fresh now.0.env.len) ∷ []) n g is

  bytes_still : (s : Receipt) → receipt_of v s.arrival.env.from s.arrival.n ≡ Some s → HasBytes v s → HasBytes v1 s
  bytes_still s here = bytes_along v v1 s s refl
      (λ how g is has. (g, granted_still s.arrival.env.from s.arrival.n g is, has))
      (λ how m is has. (
        m,
        joined_still s.arrival.env.from s.arrival.n
            (other_than s.arrival.env.from s.arrival.n s here) ∙ is,
        has,
      ))

  eager_bytes : is_ask a.env.how ≡ false → HasBytes v1 (newcomer a)
  eager_bytes how = record {
    granted = λ asked. absurd (true≢false (sym asked ∙ how));
    joined = long.longer.eager;
  }

  -- a receipt stands at its name
  at_name : (i k : ℕ) (s : Receipt) → receipt_of v i k ≡ Some s → (s.arrival.env.from ≡ i) × (s.arrival.n ≡ k)
      → receipt_of v s.arrival.env.from s.arrival.n ≡ Some s
  at_name i k s is name = ap (λ (j : ℕ). receipt_of v j s.arrival.n) name.0 ∙ ap (λ (j : ℕ). receipt_of v i j) name.1
      ∙ is

  module _ (names : (i k : ℕ) (s : Receipt) → receipt_of v i k ≡ Some s → (s.arrival.env.from ≡ i) × (s.arrival.n ≡ k))
      (more : List Pair) (grown : matched_pairs h' ≡ matched_pairs h ++ more) where
    came_unfinished : (i k : ℕ) → k + 1 ≡ (stream_of v1 i).count → 0 < missing (stream_of v1 i)
        → IsSomeAnd (receipt_of v1 i k) (λ r. (is_ask r.arrival.env.how ≡ false) × (r.whole ≡ false))
    came_unfinished i k last some = by (cases_eq i a.env.from)
      where
        P : Receipt → Type 0
        P r = (is_ask r.arrival.env.how ≡ false) × (r.whole ≡ false)

        by : (i ≡ a.env.from) ⊎ (i ≡ a.env.from → ⊥) → IsSomeAnd (receipt_of v1 i k)
            (λ r. (is_ask r.arrival.env.how ≡ false) × (r.whole ≡ false))
        by (inl same) =
            let last' : k + 1 ≡ (stream_of v1 a.env.from).count = last ∙ ap (λ (j : ℕ). (stream_of v1 j).count) same in
            let some' : 0 < missing (stream_of v1 a.env.from) = subst (λ (j : ℕ). 0 < missing (stream_of v1 j)) same
            some in
            let count = long.longer.count in
            let counted = tables.counts a.env.from in
            let is_n : k ≡ a.n = omega (arith, last', count, counted, next) in
            let eager : is_ask a.env.how ≡ false =
            false_from_ne_true (is_ask a.env.how) (λ how. let none = long.longer.asked how in
            let h' : ⊥ = omega (arith, none, some') in h') in
            some_from (λ (r : Receipt). (is_ask r.arrival.env.how ≡ false) × (r.whole ≡ false)) (receipt_of v1 i k)
            (newcomer a)
            (ap (λ (j : ℕ). receipt_of v1 j k) same ∙ ap (λ (j : ℕ). receipt_of v1 a.env.from j) is_n ∙ here1)
            (eager, refl)
        by (inr other) =
            let is = long.same i other in
            let was = some_and (λ (r : Receipt). (is_ask r.arrival.env.how ≡ false) × (r.whole ≡ false))
            (receipt_of v i k)
            (tables.unfinished i k (last ∙ ap (λ (s : Stream). s.count) is)
            (subst (λ (s : Stream). 0 < missing s) is some)) in
            some_from (λ (r : Receipt). (is_ask r.arrival.env.how ≡ false) × (r.whole ≡ false))
            (receipt_of v1 i k) was.0
            (other1 i k (λ same _. other same) ∙ was.1) was.2

    came_untaken : (i k : ℕ) (s : Receipt) → receipt_of v1 i k ≡ Some s → is_ask s.arrival.env.how ≡ false →
        is_taken h' i k ≡ false → HasBytes v1 s
    came_untaken i k s is how none = by (found i k s is)
      where
        by : (Here i k × (newcomer a ≡ s)) ⊎ (receipt_of v i k ≡ Some s) → HasBytes v1 s
        by (inl now) = subst (λ (x : Receipt). HasBytes v1 x) now.1
            (eager_bytes (ap (λ (x : Receipt). is_ask x.arrival.env.how) now.1 ∙ how))
        by (inr old) = bytes_still s (at_name i k s old (names i k s old))
            (tables.untaken i k s old how (untaken_before h h' more grown i k none))

    came_waiting : (i k : ℕ) (s : Receipt) → receipt_of v1 i k ≡ Some s → is_ask s.arrival.env.how ≡ true →
        is_taken h' i k ≡ false → s.whole ≡ false
    came_waiting i k s is how none = by (found i k s is)
      where
        by : (Here i k × (newcomer a ≡ s)) ⊎ (receipt_of v i k ≡ Some s) → s.whole ≡ false
        by (inl now) = ap (λ (x : Receipt). x.whole) (sym now.1)
        by (inr old) = tables.waiting i k s old how (untaken_before h h' more grown i k none)

    old_taken : (k : ℕ) (receive : Receive) (b : Arrival) → slice_get v.receives k ≡ Some receive →
        receive.taken ≡ Some b
        → (s : Receipt) × IsHere v1 b s × (receive.ended ≡ false → HasBytes v1 s)
    old_taken k receive b at' some =
        let was = tables.taken k receive b at' some in
        let here = was.1.0 in (
          was.0,
          (other1 b.env.from b.n (other_than b.env.from b.n was.0 here) ∙ here, was.1.1),
          λ live. bytes_still was.0 (at_name b.env.from b.n was.0 here (names b.env.from b.n was.0 here)) (was.2 live),
        )

    cleared_still : (i : ℕ) → All (λ e. IsSomeAnd (receipt_of v1 i e.0) (IsCleared h' i e)) (granted_to v i)
    cleared_still i =
        All-weaker (λ e. IsSomeAnd (receipt_of v i e.0) (IsCleared h i e))
        (λ e. IsSomeAnd (receipt_of v1 i e.0) (IsCleared h' i e))
        (λ e was. let r = some_and (IsCleared h i e) (receipt_of v i e.0) was in
        some_from (IsCleared h' i e) (receipt_of v1 i e.0) r.0 (other1 i e.0 (other_than i e.0 r.0 r.1) ∙ r.1)
        (still_cleared h h' more grown i e r.0 r.2))
        (granted_to v i) (tables.cleared i)

    -- no grant is of the new message
    none_granted : grant_in (granted_to v a.env.from) a.n ≡ None
    none_granted = by (grant_in (granted_to v a.env.from) a.n) refl
      where
        by : (o : Option Granted) → grant_in (granted_to v a.env.from) a.n ≡ o →
            grant_in (granted_to v a.env.from) a.n ≡ None
        by None is = is
        by (Some g) is =
            let entry = grant_among (λ e. IsSomeAnd (receipt_of v a.env.from e.0) (IsCleared h a.env.from e))
            (granted_to v a.env.from) a.n g
            (tables.cleared a.env.from) is in
            let r = some_and (IsCleared h a.env.from (a.n, g)) (receipt_of v a.env.from a.n) entry in
            let there = r.1 in let none = was_none in absurd (let h'' : ⊥ = cc in h'')

    came_once : (i : ℕ) → IsDistinct nat_eq (keys_of (granted_to v1 i))
    came_once i = by (granted_cases v.grants (taken_by taker a) i taken_inside)
      where
        is_a : (o : Option ℕ) (b : Arrival) → taken_by o a ≡ Some b → b ≡ a
        is_a None b is = absurd (let h'' : ⊥ = cc in h'')
        is_a (Some k) b is = let same : a ≡ b = cc in sym same

        by : (granted_to v1 i ≡ granted_to v i) ⊎ Granted_now v.grants (taken_by taker a) i →
            IsDistinct nat_eq (keys_of (granted_to v1 i))
        by (inl same) = subst (λ (row : List (ℕ × Granted)). IsDistinct nat_eq (keys_of row)) (sym same) (tables.once i)
        by (inr now) =
            let b : Arrival = now.0 in
            let same : b ≡ a = is_a taker b now.1 in
            let at_a : i ≡ a.env.from = now.3 ∙ ap (λ (x : Arrival). x.env.from) same in
            subst (λ (row : List (ℕ × Granted)). IsDistinct nat_eq (keys_of row)) (sym now.4)
            (once_push (granted_to v i) b.n (fresh b.env.len)
            (ap (λ (x : Arrival). grant_in (granted_to v i) x.n) same
            ∙ ap (λ (j : ℕ). grant_in (granted_to v j) a.n) at_a ∙ none_granted)
            (tables.once i))

    counts1 : (i : ℕ) → (stream_of v1 i).count ≡ length (receipts_from v1 i)
    counts1 i = by (cases_eq i a.env.from)
      where
        row : List Receipt
        row = receipts_from v a.env.from ++ newcomer a ∷ []

        by : (i ≡ a.env.from) ⊎ (i ≡ a.env.from → ⊥) → (stream_of v1 i).count ≡ length (receipts_from v1 i)
        by (inl same) =
            ap (λ (j : ℕ). (stream_of v1 j).count) same ∙ long.longer.count
            ∙ ap (λ (j : ℕ). j + 1) (tables.counts a.env.from)
            ∙ sym (length-append (receipts_from v a.env.from) (newcomer a ∷ []))
            ∙ sym (ap length (row-same v.receipts a.env.from row i same inside))
        by (inr other) =
            ap (λ (s : Stream). s.count) (long.same i other) ∙ tables.counts i
            ∙ sym (ap length (row-other v.receipts a.env.from row i other))

    -- a receive afterwards: as it was, or the one that took the message
    abbrev Gave : ℕ → Receive → Type 0
    Gave k receive = (was : Receive) × (taker ≡ Some k) × (slice_get v.receives k ≡ Some was)
        × (has_taken a was ≡ receive)

    gave : (k : ℕ) (receive : Receive) → slice_get (with_taken v.receives taker a) k ≡ Some receive
        → (slice_get v.receives k ≡ Some receive) ⊎ Gave k receive
    gave k receive is = by taker refl is
      where
        by_place : (k0 : ℕ) → taker ≡ Some k0 → (o : Option Receive) → slice_get v.receives k0 ≡ o
            → slice_get (option_map_or (λ r. set v.receives k0 (has_taken a r)) o v.receives) k ≡ Some receive
            → (k ≡ k0) ⊎ (k ≡ k0 → ⊥) → (slice_get v.receives k ≡ Some receive) ⊎ Gave k receive
        by_place k0 is0 None none is place' = inl is
        by_place k0 is0 (Some was) there is (inl same) =
            inr (
              was,
              is0 ∙ ap (λ (j : ℕ). Some j) (sym same),
              ap (λ (j : ℕ). slice_get v.receives j) same ∙ there,
              same_Some (has_taken a was) receive
                  (sym (get_set_same v.receives k0 (has_taken a was) (slice_get_within v.receives k0 was there))
                  ∙ ap (λ (j : ℕ). slice_get (set v.receives k0 (has_taken a was)) j) (sym same) ∙ is),
            )
        by_place k0 is0 (Some was) there is (inr differ) =
            inl (sym (get_set_other v.receives k0 k (has_taken a was) differ) ∙ is)

        by : (o : Option ℕ) → taker ≡ o → slice_get (with_taken v.receives o a) k ≡ Some receive
            → (slice_get v.receives k ≡ Some receive) ⊎ Gave k receive
        by None none is = inl is
        by (Some k0) is0 is = by_place k0 is0 (slice_get v.receives k0) refl is (cases_eq k k0)

    -- it has the same capacity
    gave_back : (k : ℕ) (was : Receive) → slice_get v.receives k ≡ Some was
        → (r : Receive) × (slice_get (with_taken v.receives taker a) k ≡ Some r) × (r.cap ≡ was.cap)
    gave_back k was is = by taker
      where
        by_place : (k0 : ℕ) (o : Option Receive) → slice_get v.receives k0 ≡ o → (k ≡ k0) ⊎ (k ≡ k0 → ⊥)
            → (r : Receive) × (slice_get (option_map_or (λ r. set v.receives k0 (has_taken a r)) o v.receives) k
            ≡ Some r) × (r.cap ≡ was.cap)
        by_place k0 None none place' = (was, is, refl)
        by_place k0 (Some r0) there (inl same) =
            let same' : r0 ≡ was = same_Some r0 was (sym there ∙ ap (λ (j : ℕ). slice_get v.receives j) (sym same)
            ∙ is) in (
              has_taken a r0,
              ap (λ (j : ℕ). slice_get (set v.receives k0 (has_taken a r0)) j) same
                  ∙ get_set_same v.receives k0 (has_taken a r0) (slice_get_within v.receives k0 r0 there),
              ap (λ (x : Receive). x.cap) same',
            )
        by_place k0 (Some r0) there (inr differ) =
            (was, get_set_other v.receives k0 k (has_taken a r0) differ ∙ is, refl)

        by : (o : Option ℕ) → (r : Receive) × (slice_get (with_taken v.receives o a) k ≡ Some r) × (r.cap ≡ was.cap)
        by None = (was, is, refl)
        by (Some k0) = by_place k0 (slice_get v.receives k0) refl (cases_eq k k0)

    -- what is granted now
    granted_here : (k : ℕ) → taker ≡ Some k → is_ask a.env.how ≡ true
        → grant_in (granted_to v1 a.env.from) a.n ≡ Some (fresh a.env.len)
    granted_here k is how =
        ap (λ (row : List (ℕ × Granted)). grant_in row a.n)
        (ap (λ (o : Option ℕ). granted_to (came v streams a o) a.env.from) is
        ∙ granted_new v.grants a how granted a.env.from refl)
        ∙ grant_new (granted_to v a.env.from) a.n (fresh a.env.len) none_granted

    -- a message whose pieces are to come has an open grant
    pub owed-came : (taker ≡ None → is_taken h' a.env.from a.n ≡ false)
        → ((i k : ℕ) → (i ≡ a.env.from → k ≡ a.n → ⊥) → is_taken h' i k ≡ is_taken h i k)
        → AreGrantedFor v h → AreGrantedFor v1 h'
    owed-came alone others owed i k s is awaited = by (found i k s is)
      where
        by_taker : Here i k → newcomer a ≡ s → (o : Option ℕ) → taker ≡ o → HasOpen (granted_to v1 a.env.from) a.n
        by_taker here same None none =
            absurd (true≢false (sym awaited.taken ∙ ap (λ (j : ℕ). is_taken h' j k) here.0
            ∙ ap (λ (j : ℕ). is_taken h' a.env.from j) here.1 ∙ alone none))
        by_taker here same (Some taken) some =
            open_new (granted_to v1 a.env.from) a.n a.env.len
            (granted_here taken some (ap (λ (x : Receipt). is_ask x.arrival.env.how) same ∙ awaited.asked))
            (subst (λ (x : Receipt). 0 < x.arrival.env.len) (sym same) awaited.body)

        by : (Here i k × (newcomer a ≡ s)) ⊎ (receipt_of v i k ≡ Some s) → HasOpen (granted_to v1 i) k
        by (inl now) =
            subst (λ (j : ℕ). HasOpen (granted_to v1 j) k) (sym now.0.0)
            (subst (λ (j : ℕ). HasOpen (granted_to v1 a.env.from) j) (sym now.0.1) (by_taker now.0 now.1 taker refl))
        by (inr old) =
            open_still (granted_to v i) (granted_to v1 i) k (granted_still i k)
            (owed i k s old (awaited_before h h' i k s (sym (others i k (other_than i k s old)) ∙ awaited.taken)
            awaited))

    module _ (paired : (k : ℕ) → taker ≡ Some k → is_taken h' a.env.from a.n ≡ true) where
      new_bytes : (k : ℕ) → taker ≡ Some k → HasBytes v1 (newcomer a)
      new_bytes k is = by (is_ask a.env.how) refl
        where
          by : (b : Bool) → is_ask a.env.how ≡ b → HasBytes v1 (newcomer a)
          by false how = eager_bytes how
          by true how =
              record {
                granted = λ _. some_from (IsGranted (newcomer a)) (grant_in (granted_to v1 a.env.from) a.n)
                    (fresh a.env.len) (granted_here k is how)
                    (record { len = refl; bytes = λ whole. absurd (true≢false (sym whole)) });
                joined = λ eager. absurd (true≢false (sym how ∙ eager));
              }

      came_taken : (k : ℕ) (receive : Receive) (b : Arrival) → slice_get (with_taken v.receives taker a) k
          ≡ Some receive → receive.taken ≡ Some b
          → (s : Receipt) × IsHere v1 b s × (receive.ended ≡ false → HasBytes v1 s)
      came_taken k receive b at' some = by (gave k receive at')
        where
          by : (slice_get v.receives k ≡ Some receive) ⊎ Gave k receive →
              (s : Receipt) × IsHere v1 b s × (receive.ended ≡ false → HasBytes v1 s)
          by (inl old) = old_taken k receive b old some
          by (inr now) =
              let same : a ≡ b = same_Some a b (ap (λ (x : Receive). x.taken) now.3 ∙ some) in (
                newcomer a,
                (subst (λ (x : Arrival). receipt_of v1 x.env.from x.n ≡ Some (newcomer a)) same here1, same),
                λ _. new_bytes k now.1,
              )

      not_theirs : (k l : ℕ) (receive other : Receive) (b c : Arrival) → slice_get v.receives k ≡ Some receive →
          receive.taken ≡ Some b
          → Gave l other → other.taken ≡ Some c → b.env.from ≡ c.env.from → b.n ≡ c.n → ⊥
      not_theirs k l receive other b c at' some now some' same same' =
          let is_a : a ≡ c = same_Some a c (ap (λ (x : Receive). x.taken) now.3 ∙ some') in
          let was = tables.taken k receive b at' some in
          other_than b.env.from b.n was.0 was.1.0 (same ∙ ap (λ (x : Arrival). x.env.from) (sym is_a))
          (same' ∙ ap (λ (x : Arrival). x.n) (sym is_a))

      came_apart : (k l : ℕ) (receive other : Receive) (b c : Arrival) → slice_get (with_taken v.receives taker a) k
          ≡ Some receive
          → slice_get (with_taken v.receives taker a) l ≡ Some other → receive.taken ≡ Some b → other.taken ≡ Some c
          → b.env.from ≡ c.env.from → b.n ≡ c.n → k ≡ l
      came_apart k l receive other b c at' at'' some some' same same' = by (gave k receive at') (gave l other at'')
        where
          by : (slice_get v.receives k ≡ Some receive) ⊎ Gave k receive →
              (slice_get v.receives l ≡ Some other) ⊎ Gave l other → k ≡ l
          by (inl old) (inl old') = tables.apart k l receive other b c old old' some some' same same'
          by (inl old) (inr now) = absurd (not_theirs k l receive other b c old some now some' same same')
          by (inr now) (inl old) = absurd (not_theirs l k other receive c b old some' now some (sym same) (sym same'))
          by (inr now) (inr now') = same_Some k l (sym now.1 ∙ now'.1)

      came_cleared : (i : ℕ) → All (λ e. IsSomeAnd (receipt_of v1 i e.0) (IsCleared h' i e)) (granted_to v1 i)
      came_cleared i = by (granted_cases v.grants (taken_by taker a) i taken_inside)
        where
          of_taker : (o : Option ℕ) (b : Arrival) → taken_by o a ≡ Some b → (b ≡ a) × ((k : ℕ) × (o ≡ Some k))
          of_taker None b is = absurd (let h'' : ⊥ = cc in h'')
          of_taker (Some k) b is = let same : a ≡ b = cc in (sym same, (k, refl))

          by : (granted_to v1 i ≡ granted_to v i) ⊎ Granted_now v.grants (taken_by taker a) i
              → All (λ e. IsSomeAnd (receipt_of v1 i e.0) (IsCleared h' i e)) (granted_to v1 i)
          by (inl same) =
              subst (λ (row : List (ℕ × Granted)). All (λ e. IsSomeAnd (receipt_of v1 i e.0) (IsCleared h' i e)) row)
              (sym same) (cleared_still i)
          by (inr now) =
              let b : Arrival = now.0 in
              let of = of_taker taker b now.1 in
              let at_a : i ≡ a.env.from = now.3 ∙ ap (λ (x : Arrival). x.env.from) of.0 in
              let n_is : b.n ≡ a.n = ap (λ (x : Arrival). x.n) of.0 in
              subst (λ (row : List (ℕ × Granted)). All (λ e. IsSomeAnd (receipt_of v1 i e.0) (IsCleared h' i e)) row)
              (sym now.4)
              (All-push (λ e. IsSomeAnd (receipt_of v1 i e.0) (IsCleared h' i e)) (granted_to v i)
              (b.n, fresh b.env.len) (cleared_still i)
              (some_from (IsCleared h' i (b.n, fresh b.env.len)) (receipt_of v1 i b.n) (newcomer a)
              (ap (λ (j : ℕ). receipt_of v1 j b.n) at_a ∙ ap (λ (j : ℕ). receipt_of v1 a.env.from j) n_is ∙ here1)
              (record {
                asked = ap (λ (x : Arrival). is_ask x.env.how) (sym of.0) ∙ now.2;
                taken = ap (λ (j : ℕ). is_taken h' j b.n) at_a ∙ ap (λ (j : ℕ). is_taken h' a.env.from j) n_is
                    ∙ paired of.1.0 of.1.1;
                due = λ _. refl;
              })))

      pub tables-came : posts h' ≡ posts h → TablesAgree v1 h'
      tables-came same_posts = record {
        streams = long.length' ∙ tables.streams;
        grants = granted_length v.grants (taken_by taker a) ∙ tables.grants;
        receipts = length-set v.receipts a.env.from (rows_from v.receipts a.env.from ++ newcomer a ∷ [])
            ∙ tables.receipts;
        drawn = tables.drawn;
        counts = counts1;
        unfinished = came_unfinished;
        untaken = came_untaken;
        waiting = came_waiting;
        taken = came_taken;
        apart = came_apart;
        cleared = came_cleared;
        once = came_once;
        caps = subst (λ (ps : List post.Post). All
            (λ p. IsSomeAnd (slice_get (with_taken v.receives taker a) p.number) (λ r. r.cap ≡ p.cap)) ps)
            (sym same_posts)
            (All-weaker (λ p. IsSomeAnd (slice_get v.receives p.number) (λ r. r.cap ≡ p.cap))
            (λ p. IsSomeAnd (slice_get (with_taken v.receives taker a) p.number) (λ r. r.cap ≡ p.cap))
            (λ p had. let r = some_and (λ (r : Receive). r.cap ≡ p.cap) (slice_get v.receives p.number) had in
            let back = gave_back p.number r.0 r.1 in
            some_from (λ (r : Receive). r.cap ≡ p.cap) (slice_get (with_taken v.receives taker a) p.number) back.0
            back.1 (back.2 ∙ r.2))
            (posts h) tables.caps);
      }
