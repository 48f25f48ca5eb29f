-- How the tables go on when the result of a receive is given.
use Rattle.std.specs.Prelude.{IsSomeAnd}
use Rattle.std.proofs.Common.{◌≡◌, ◌≢◌, ℕ, ◌<◌, ◌≤◌, ◌==◌, Bool, true, false, not, ◌&&◌, cond, if◌then◌else◌, nat_eq}
use Rattle.std.proofs.Common.{Option, Some, List, []}
use Rattle.std.proofs.Common.{length, get_or, refl, sym, ◌∙◌, ap, subst, arith, ◌⊎◌, inl, inr}
use Rattle.std.specs.List.{All, IsDistinct, slice_get}
use Rattle.std.specs.Map.{keys_of, set_value}
use Rattle.std.specs.Option.{option_map_or}
use Rattle.std.proofs.Math.ListN.{set}
use Rattle.std.proofs.lemmas.Bool.{cases_eq, eq-eqb, true≢false}
use Rattle.std.proofs.lemmas.List.{get_or-set_other, get_or-set_same, length-set, set-get_or}
use Rattle.std.proofs.lemmas.Map.{keys-set_value}
use Rattle.std.proofs.lemmas.Option.{same_Some, slice_get_within}
use Rattle.nm_types.specs.Sizes.{Sizes}
use Rattle.nm_types.specs.declared.messages.Arrival.{Arrival}
use Rattle.nm_history.specs.declared.events.Event.{Event}
use Rattle.nm_history.specs.declared.plain.Pair.{Pair}
use Rattle.nm_history.specs.Completion.{is_complete, is_taken}
use Rattle.nm_history.specs.Completion.Request.{Receiving}
use Rattle.nm_history.specs.Matching.{is_of_message}
use Rattle.nm_history.specs.Sends.{is_ask}
use Rattle.nm_eager.specs.Streams.{Incoming, Stream, message_of, missing, nothing_came, without}
use Rattle.nm_match.proofs.ListLemmas.{find-filter}
use Rattle.nm_rndv.specs.Grants.{Granted, grant_in, is_whole as is_whole_grant, is_whole_in, taken_in, with_grant}
use Rattle.nm_rndv.specs.Grants.{without_bytes}
use Rattle.nm_rndv.proofs.StateLemmas.{equal}
use Rattle.nm_receiving.specs.declared.receipts.Receipt.{Receipt}
use Rattle.nm_receiving.specs.declared.receipts.Receive.{Receive}
use Rattle.nm_receiving.specs.Kept.{AreGrantedFor, TablesAgree, HasBytes, IsCleared, IsGranted, IsJoined, ReceivingInvariant}
use Rattle.nm_receiving.specs.Receipts.{ReceivingView, SameOtherBytes, came_of}
use Rattle.nm_receiving.specs.Receipts.{granted_to, pair_at, receipt_of, stream_of}
use Rattle.nm_receiving.specs.Received.{AreReceived}
use Rattle.nm_receiving.specs.Steps.{IsThere, has_ended, with_ended}
use Rattle.nm_receiving.proofs.Answering.{taken_complete}
use Rattle.nm_receiving.proofs.CameLemmas.{came-same, granted_bytes, joined_bytes}
use Rattle.nm_receiving.proofs.Changing.{keeps-ended, keeps-taken}
use Rattle.nm_receiving.proofs.Goings.{names_of}
use Rattle.nm_receiving.proofs.Grants.{all_set, grant_among, grant_set}
use Rattle.nm_receiving.proofs.Lists.{row-other, row-same, row_inside}
use Rattle.nm_receiving.proofs.Lists.{some_from}
use Rattle.nm_receiving.specs.Receives.{has_ended_at}
use Rattle.nm_receiving.proofs.Overs.{over-ended}
use Rattle.nm_receiving.proofs.Showing.{pair_here}
use Rattle.nm_receiving.proofs.Tables.{took}
use Rattle.nm_receiving.proofs.TablesRest.{AreRemoved, later_set, like_itself, owed-removed, owed-still}
use Rattle.nm_receiving.proofs.TablesRest.{tables-receives, tables-removed}
use Rattle.nm_receiving.proofs.Taking.{streams_apart}
use Rattle.nm_types.proofs.NumberLemmas.{unequal, eq_true, nat_unequal as differs}
use Rattle.nm_types.proofs.ListLemmas.{get_set_other, find_agree, get_set_same}
use Rattle.nm_types.proofs.OptionLemmas.{some_and}

-- a receive that ended
pub ended_is : (rs : List Receive) (number : ℕ) (r : Receive) → slice_get rs number ≡ Some r →
    set rs number (has_ended r) ≡ with_ended rs number
ended_is rs number r here =
    sym (ap (λ (o : Option Receive). option_map_or (λ r. set rs number (has_ended r)) o rs) here)

abbrev pub ended_view : ReceivingView → ℕ → Receive → ReceivingView
ended_view v number r = record v { receives = set v.receives number (has_ended r) }

tables-ended : (v : ReceivingView) (h : List Event) (number : ℕ) (r : Receive) →
    slice_get v.receives number ≡ Some r → TablesAgree v h
    → TablesAgree (ended_view v number r) h
tables-ended v h number r here tables =
    tables-receives v h h v.deeds (set v.receives number (has_ended r)) tables (record { pairs = refl; posts = refl })
    (later_set v.receives number r (has_ended r) here
    (record { taken = refl; ended = λ live. absurd (true≢false live) }) refl)

pub kept-ended : (v : ReceivingView) (kept : ReceivingInvariant v) (number : ℕ) (r : Receive) →
    slice_get v.receives number ≡ Some r → is_complete kept.history (Receiving number) ≡ true
    → ReceivingInvariant (ended_view v number r)
kept-ended v kept number r here complete = record {
  history = kept.history;
  received = keeps-ended v number r here kept.history kept.received;
  right = kept.right;
  in_time = kept.in_time;
  tables = tables-ended v kept.history number r here kept.tables;
  owed = owed-still v (ended_view v number r) kept.history kept.history refl refl (like_itself kept.history) kept.owed;
  over = over-ended v.receives kept.history number r here complete kept.over;
}

-- the bytes of a whole message are there
pub there_is : (v : ReceivingView) (r : Receipt) (a : Arrival) → r.arrival ≡ a → r.whole ≡ true → HasBytes v r
    → IsThere (stream_of v a.env.from) (granted_to v a.env.from) a
there_is v r a same whole bytes =
    subst (λ (a : Arrival). IsThere (stream_of v a.env.from) (granted_to v a.env.from) a) same
    (record {
      granted = λ how.
          let had = some_and (IsGranted r) (grant_in (granted_to v r.arrival.env.from) r.arrival.n)
          (bytes.granted how) in
          let bs = some_and (λ (bytes : List ℕ). r.whole ≡ true → length bytes ≡ had.0.len) had.0.bytes had.2.bytes in
          some_from (λ (g : Granted). (g.len ≡ r.arrival.env.len) × IsSomeAnd g.bytes (λ bytes. length bytes ≡ g.len))
          (grant_in (granted_to v r.arrival.env.from) r.arrival.n) had.0 had.1
          (had.2.len, some_from (λ (bytes : List ℕ). length bytes ≡ had.0.len) had.0.bytes bs.0 bs.1 (bs.2 whole));
      joined = λ how.
          let had = some_and (IsJoined r) (message_of (stream_of v r.arrival.env.from) r.arrival.n)
          (bytes.joined how) in
          some_from (λ (m : Incoming). (m.len ≡ r.arrival.env.len) × (m.len ≤ length m.bytes))
          (message_of (stream_of v r.arrival.env.from) r.arrival.n) had.0 had.1 (had.2.len, had.2.whole whole);
    })

-- a granted message that is there is whole
pub whole_there : (grants : List (ℕ × Granted)) (a : Arrival) → IsSomeAnd (grant_in grants a.n)
    (λ g. (g.len ≡ a.env.len) × IsSomeAnd g.bytes (λ bytes. length bytes ≡ g.len))
    → is_whole_in grants a.n ≡ true
whole_there grants a there =
    let g = some_and (λ (g : Granted). (g.len ≡ a.env.len) × IsSomeAnd g.bytes (λ bytes. length bytes ≡ g.len))
    (grant_in grants a.n) there in
    let bs = some_and (λ (bytes : List ℕ). length bytes ≡ g.0.len) g.0.bytes g.2.1 in
    ap (λ (o : Option Granted). option_map_or is_whole_grant o false) g.1
    ∙ ap (λ (o : Option (List ℕ)). option_map_or (λ bytes. length bytes == g.0.len) o false) bs.1
    ∙ eq-eqb (length bs.0) g.0.len bs.2

-- the message without which the others stay
without_other : (s : Stream) (n k : ℕ) → k ≢ n → message_of (without s n) k ≡ message_of s k
without_other s n k differ =
    find-filter (λ (m : Incoming). m.n == k) (λ (m : Incoming). not (m.n == n)) s.messages
    ∙ find_agree (λ (m : Incoming). (m.n == k) && not (m.n == n)) (λ (m : Incoming). m.n == k)
    (λ m. by m (cases_eq m.n k)) s.messages
  where
    by : (m : Incoming) → (m.n ≡ k) ⊎ (m.n ≡ k → ⊥) → ((m.n == k) && not (m.n == n)) ≡ (m.n == k)
    by m (inl same) =
        ap (λ (b : Bool). (m.n == k) && not b) (unequal m.n n (λ is. differ (sym same ∙ is)))
        ∙ true_too (m.n == k)
      where
        true_too : (b : Bool) → (b && true) ≡ b
        true_too true = refl
        true_too false = refl
    by m (inr other) = ap (λ (b : Bool). b && not (m.n == n)) (unequal m.n k other) ∙ sym (unequal m.n k other)

module _ (v : ReceivingView) (kept : ReceivingInvariant v) (number : ℕ) (r : Receive)
    (here : slice_get v.receives number ≡ Some r) (live : r.ended ≡ false)
    (a : Arrival) (some : r.taken ≡ Some a) (m : Receipt) (came : receipt_of v a.env.from a.n ≡ Some m)
    (whole : m.whole ≡ true) where
  abbrev h : List Event
  h = kept.history

  abbrev from : ℕ
  from = a.env.from

  abbrev row : List (ℕ × Granted)
  row = granted_to v from

  abbrev s : Stream
  s = stream_of v from

  abbrev v1 : ReceivingView
  v1 = ended_view v number r

  pub bytes_there_now : IsThere s row a
  bytes_there_now =
      let had = kept.tables.taken number r a here some in
      let same : had.0 ≡ m = same_Some had.0 m (sym had.1.0 ∙ came) in
      there_is v had.0 a had.1.1 (ap (λ (x : Receipt). x.whole) same ∙ whole) (had.2 live)

  is_done : is_taken h from a.n ≡ true
  is_done = took v h kept.received number r a here some

  others : (k : ℕ) (receive : Receive) (b : Arrival) → slice_get v1.receives k ≡ Some receive →
      receive.taken ≡ Some b → receive.ended ≡ false
      → b.env.from ≡ from → b.n ≡ a.n → ⊥
  others k receive b at' some' live' same same' = by (cases_eq k number)
    where
      by : (k ≡ number) ⊎ (k ≡ number → ⊥) → ⊥
      by (inl is) =
          let now : has_ended r ≡ receive = same_Some (has_ended r) receive
          (sym (get_set_same v.receives number (has_ended r) (slice_get_within v.receives number r here))
          ∙ ap (λ (j : ℕ). slice_get v1.receives j) (sym is) ∙ at') in
          true≢false (ap (λ (x : Receive). x.ended) now ∙ live')
      by (inr differ) =
          let old : slice_get v.receives k ≡ Some receive =
          sym (get_set_other v.receives number k (has_ended r) differ) ∙ at' in
          differ (kept.tables.apart k number receive r b a old here some' some same same')

  names1 : (i k : ℕ) (x : Receipt) → receipt_of v i k ≡ Some x → (x.arrival.env.from ≡ i) × (x.arrival.n ≡ k)
  names1 = names_of v h kept.received

  tables1 : TablesAgree v1 h
  tables1 = tables-ended v h number r here kept.tables

  owed1 : AreGrantedFor v1 h
  owed1 = owed-still v v1 h h refl refl (like_itself h) kept.owed

  -- its receive is complete
  over1 : (k : ℕ) → has_ended_at v1.receives k ≡ true → is_complete h (Receiving k) ≡ true
  over1 = over-ended v.receives h number r here (taken_complete v h kept.received number r here a some m came whole)
      kept.over

  -- a message that was sent by asking
  module _ (asked : is_ask a.env.how ≡ true) (inside : from < length v.grants) where
    granted : (g : Granted) × (grant_in row a.n ≡ Some g)
        × ((g.len ≡ a.env.len) × IsSomeAnd g.bytes (λ bytes. length bytes ≡ g.len))
    granted = let t = bytes_there_now in
        some_and (λ (g : Granted). (g.len ≡ a.env.len) × IsSomeAnd g.bytes (λ bytes. length bytes ≡ g.len))
        (grant_in row a.n) (t.granted asked)

    abbrev w : Granted
    w = without_bytes granted.0

    abbrev grants1 : List (List (ℕ × Granted))
    grants1 = set v.grants from (taken_in row a.n)

    row_is : get_or grants1 from [] ≡ set_value (nat_eq a.n) row w
    row_is = row-same v.grants from (taken_in row a.n) from refl inside
        ∙ ap (λ (o : Option Granted). option_map_or (λ g. with_grant row a.n (without_bytes g)) o row) granted.1

    still_granted : (i k : ℕ) → (i ≡ from → k ≡ a.n → ⊥) → grant_in (get_or grants1 i []) k ≡ grant_in
        (granted_to v i) k
    still_granted i k differ = by (cases_eq i from)
      where
        by : (i ≡ from) ⊎ (i ≡ from → ⊥) → grant_in (get_or grants1 i []) k ≡ grant_in (granted_to v i) k
        by (inl same) =
            ap (λ (j : ℕ). grant_in (get_or grants1 j []) k) same ∙ ap (λ (es : List (ℕ × Granted)). grant_in es k)
            row_is
            ∙ grant_set row a.n granted.0 w granted.1 k
            ∙ ap (λ (b : Bool). cond b (Some w) (grant_in row k)) (differs a.n k (λ is. differ same (sym is)))
            ∙ ap (λ (j : ℕ). grant_in (granted_to v j) k) (sym same)
        by (inr other) = ap (λ (es : List (ℕ × Granted)). grant_in es k)
            (row-other v.grants from (taken_in row a.n) i other)

    still_cleared : (i : ℕ) → All (λ e. IsSomeAnd (receipt_of v i e.0) (IsCleared h i e)) (get_or grants1 i [])
    still_cleared i = by (cases_eq i from)
      where
        by : (i ≡ from) ⊎ (i ≡ from → ⊥) → All (λ e. IsSomeAnd (receipt_of v i e.0) (IsCleared h i e))
            (get_or grants1 i [])
        by (inl same) =
            let entry = grant_among (λ e. IsSomeAnd (receipt_of v from e.0) (IsCleared h from e)) row a.n granted.0
            (kept.tables.cleared from) granted.1 in
            let x = some_and (IsCleared h from (a.n, granted.0)) (receipt_of v from a.n) entry in
            subst (λ (j : ℕ). All (λ e. IsSomeAnd (receipt_of v j e.0) (IsCleared h j e)) (get_or grants1 j []))
            (sym same)
            (subst (λ (es : List (ℕ × Granted)). All (λ e. IsSomeAnd (receipt_of v from e.0) (IsCleared h from e)) es)
            (sym row_is)
            (all_set (λ e. IsSomeAnd (receipt_of v from e.0) (IsCleared h from e)) (nat_eq a.n) row w
            (λ k is. let same' : a.n ≡ k = equal a.n k is in
            subst (λ (j : ℕ). IsSomeAnd (receipt_of v from j) (IsCleared h from (j, w))) same'
            (some_from (IsCleared h from (a.n, w)) (receipt_of v from a.n) x.0 x.1
            (record { asked = x.2.asked; taken = x.2.taken; due = λ open'. absurd (true≢false (sym open')) })))
            (kept.tables.cleared from)))
        by (inr other) = subst (λ (es : List (ℕ × Granted)). All
            (λ e. IsSomeAnd (receipt_of v i e.0) (IsCleared h i e)) es)
            (sym (row-other v.grants from (taken_in row a.n) i other)) (kept.tables.cleared i)

    still_once : (i : ℕ) → IsDistinct nat_eq (keys_of (get_or grants1 i []))
    still_once i = by (cases_eq i from)
      where
        by : (i ≡ from) ⊎ (i ≡ from → ⊥) → IsDistinct nat_eq (keys_of (get_or grants1 i []))
        by (inl same) = subst (λ (ks : List ℕ). IsDistinct nat_eq ks)
            (sym (ap (λ (j : ℕ). keys_of (get_or grants1 j [])) same
            ∙ ap (λ (es : List (ℕ × Granted)). keys_of es) row_is
            ∙ keys-set_value (nat_eq a.n) row w)) (kept.tables.once from)
        by (inr other) = subst (λ (es : List (ℕ × Granted)). IsDistinct nat_eq (keys_of es))
            (sym (row-other v.grants from (taken_in row a.n) i other)) (kept.tables.once i)

    received-asked : (k : List Event) → AreReceived v k → AreReceived (record v1 { grants = grants1 }) k
    received-asked k received =
        let t = bytes_there_now in
        keeps-ended (record v { grants = grants1 }) number r here k
        (keeps-taken v from a.n inside (whole_there row a (t.granted asked)) k received)

    removed-asked : AreRemoved v1 h v.streams grants1 from a.n
    removed-asked = record {
      streams' = refl;
      grants' = length-set v.grants from (taken_in row a.n);
      counts = λ _. refl;
      missed = λ _. refl;
      joined = λ _ _ _. refl;
      granted = still_granted;
      cleared = still_cleared;
      once = still_once;
    }

    kept-asked : ReceivingInvariant (record v1 { grants = grants1 })
    kept-asked = record {
      history = h;
      received = received-asked h kept.received;
      right = kept.right;
      in_time = kept.in_time;
      tables = tables-removed v1 h v.streams grants1 from a.n tables1 removed-asked is_done others names1;
      owed = owed-removed v1 h v.streams grants1 from a.n m removed-asked came whole owed1;
      over = over1;
    }

  -- an eager message
  module _ (inside : from < length v.streams) (left : missing (without s a.n) ≡ missing s) where
    abbrev streams1 : List Stream
    streams1 = set v.streams from (without s a.n)

    stream_here : get_or streams1 from nothing_came ≡ without s a.n
    stream_here = get_or-set_same v.streams from (without s a.n) nothing_came inside

    stream_else : (i : ℕ) → i ≢ from → get_or streams1 i nothing_came ≡ stream_of v i
    stream_else i differ = get_or-set_other v.streams from i (without s a.n) nothing_came differ

    pub same_numbers : (i : ℕ) → ((get_or streams1 i nothing_came).count ≡ (stream_of v i).count)
        × (missing (get_or streams1 i nothing_came) ≡ missing (stream_of v i))
    same_numbers i = by (cases_eq i from)
      where
        by : (i ≡ from) ⊎ (i ≡ from → ⊥) → ((get_or streams1 i nothing_came).count ≡ (stream_of v i).count)
            × (missing (get_or streams1 i nothing_came) ≡ missing (stream_of v i))
        by (inl same) = (
          ap (λ (j : ℕ). (get_or streams1 j nothing_came).count) same ∙ ap (λ (x : Stream). x.count) stream_here
              ∙ ap (λ (j : ℕ). (stream_of v j).count) (sym same),
          ap (λ (j : ℕ). missing (get_or streams1 j nothing_came)) same ∙ ap missing stream_here ∙ left
              ∙ ap (λ (j : ℕ). missing (stream_of v j)) (sym same),
        )
        by (inr other) = (ap (λ (x : Stream). x.count) (stream_else i other), ap missing (stream_else i other))

    still_joined : (i k : ℕ) → (i ≡ from → k ≡ a.n → ⊥) → message_of (get_or streams1 i nothing_came) k ≡ message_of
        (stream_of v i) k
    still_joined i k differ = by (cases_eq i from)
      where
        by : (i ≡ from) ⊎ (i ≡ from → ⊥) → message_of (get_or streams1 i nothing_came) k ≡ message_of (stream_of v i) k
        by (inl same) =
            ap (λ (j : ℕ). message_of (get_or streams1 j nothing_came) k) same
            ∙ ap (λ (x : Stream). message_of x k) stream_here
            ∙ without_other s a.n k (differ same) ∙ ap (λ (j : ℕ). message_of (stream_of v j) k) (sym same)
        by (inr other) = ap (λ (x : Stream). message_of x k) (stream_else i other)

    received-eager : (k : List Event) → AreReceived v k → AreReceived (record v1 { streams = streams1 }) k
    received-eager k received = streams_apart v1 streams1 k (keeps-ended v number r here k received)

    removed-eager : AreRemoved v1 h streams1 v.grants from a.n
    removed-eager = record {
      streams' = length-set v.streams from (without s a.n);
      grants' = refl;
      counts = λ i. let x = same_numbers i in x.0;
      missed = λ i. let x = same_numbers i in x.1;
      joined = still_joined;
      granted = λ _ _ _. refl;
      cleared = kept.tables.cleared;
      once = kept.tables.once;
    }

    kept-eager : ReceivingInvariant (record v1 { streams = streams1 })
    kept-eager = record {
      history = h;
      received = received-eager h kept.received;
      right = kept.right;
      in_time = kept.in_time;
      tables = tables-removed v1 h streams1 v.grants from a.n tables1 removed-eager is_done others names1;
      owed = owed-removed v1 h streams1 v.grants from a.n m removed-eager came whole owed1;
      over = over1;
    }

  abbrev kept_stream : Stream
  kept_stream = if is_ask a.env.how then s else without s a.n

  module _ (sender : from < v.sizes.ranks) (left : missing kept_stream ≡ missing s) (sizes : Sizes)
      (streams : List Stream) (grants : List (List (ℕ × Granted)))
      (sizes_is : sizes ≡ v.sizes) (streams_is : streams ≡ set v.streams from kept_stream)
      (grants_is : grants ≡ (if is_ask a.env.how then set v.grants from (taken_in row a.n) else v.grants)) where
    abbrev pub finished_view : ReceivingView
    finished_view = record {
      sizes = sizes;
      deeds = v.deeds;
      streams = streams;
      grants = grants;
      receipts = v.receipts;
      receives = set v.receives number (has_ended r);
      drawn = v.drawn;
    }

    in_streams : from < length v.streams
    in_streams = let n = kept.tables.streams in omega (arith, sender, n)

    in_grants : from < length v.grants
    in_grants = let n = kept.tables.grants in omega (arith, sender, n)

    view-asked : is_ask a.env.how ≡ true →
        ◌≡◌ {A = ReceivingView} (record v1 { grants = set v.grants from (taken_in row a.n) }) finished_view
    view-asked how = rw (sizes_is, streams_is, grants_is, how)
        (ap (λ (ss : List Stream). let x : ReceivingView =
        record v1 { streams = ss; grants = set v.grants from (taken_in row a.n) } in x)
        (sym (set-get_or v.streams from nothing_came)))

    view-eager : is_ask a.env.how ≡ false →
        ◌≡◌ {A = ReceivingView} (record v1 { streams = set v.streams from (without s a.n) }) finished_view
    view-eager how = rw (sizes_is, streams_is, grants_is, how) refl

    left-eager : is_ask a.env.how ≡ false → missing (without s a.n) ≡ missing s
    left-eager how = subst (λ (b : Bool). missing (if b then s else without s a.n) ≡ missing s) how left

    pub kept-finished : ReceivingInvariant finished_view
    kept-finished = by (is_ask a.env.how) refl
      where
        by : (b : Bool) → is_ask a.env.how ≡ b → ReceivingInvariant finished_view
        by true how = subst (λ (x : ReceivingView). ReceivingInvariant x) (view-asked how) (kept-asked how in_grants)
        by false how = subst (λ (x : ReceivingView). ReceivingInvariant x) (view-eager how) (kept-eager in_streams (left-eager how))

    pub received-finished : (k : List Event) → AreReceived v k → AreReceived finished_view k
    received-finished k received = by (is_ask a.env.how) refl
      where
        by : (b : Bool) → is_ask a.env.how ≡ b → AreReceived finished_view k
        by true how = subst (λ (x : ReceivingView). AreReceived x k) (view-asked how)
            (received-asked how in_grants k received)
        by false how = subst (λ (x : ReceivingView). AreReceived x k) (view-eager how)
            (received-eager in_streams (left-eager how) k received)

    pub streams-finished : (i : ℕ) → ((stream_of finished_view i).count ≡ (stream_of v i).count)
        × (missing (stream_of finished_view i) ≡ missing (stream_of v i))
    streams-finished i = by (is_ask a.env.how) refl
      where
        by : (b : Bool) → is_ask a.env.how ≡ b → ((stream_of finished_view i).count ≡ (stream_of v i).count)
            × (missing (stream_of finished_view i) ≡ missing (stream_of v i))
        by true how = subst (λ (x : ReceivingView). ((stream_of x i).count ≡ (stream_of v i).count)
            × (missing (stream_of x i) ≡ missing (stream_of v i)))
            (view-asked how) (refl, refl)
        by false how = subst (λ (x : ReceivingView). ((stream_of x i).count ≡ (stream_of v i).count)
            × (missing (stream_of x i) ≡ missing (stream_of v i)))
            (view-eager how) (same_numbers in_streams (left-eager how) i)

    -- the bytes of the other messages are the same
    came-finished : (b : Arrival) → (b.env.from ≡ from → b.n ≡ a.n → ⊥)
        → came_of finished_view b ≡ came_of v b
    came-finished b differ = by (is_ask a.env.how) refl
      where
        by : (c : Bool) → is_ask a.env.how ≡ c → came_of finished_view b ≡ came_of v b
        by true how =
            subst (λ (x : ReceivingView). came_of x b ≡ came_of v b) (view-asked how)
            (came-same v (record v1 { grants = set v.grants from (taken_in row a.n) }) b
            (λ _. ap granted_bytes (still_granted how in_grants b.env.from b.n differ))
            (λ _. refl))
        by false how =
            subst (λ (x : ReceivingView). came_of x b ≡ came_of v b) (view-eager how)
            (came-same v (record v1 { streams = set v.streams from (without s a.n) }) b
            (λ _. refl)
            (λ _. ap joined_bytes (still_joined in_streams (left-eager how) b.env.from b.n differ)))

    pub bytes-finished : SameOtherBytes (pair_at v number) v finished_view
    bytes-finished b other = came-finished b (λ same same'. true≢false (sym (of_b same same') ∙ other))
      where
        of_b : b.env.from ≡ from → b.n ≡ a.n
            → option_map_or (is_of_message b.env.from b.n) (pair_at v number) false ≡ true
        of_b same same' =
            ap (λ (o : Option Pair). option_map_or (is_of_message b.env.from b.n) o false)
            (pair_here v number r here a some)
            ∙ ap (λ (x : Bool). x && a.n == b.n) (eq_true from b.env.from (sym same))
            ∙ eq_true a.n b.n (sym same')

-- the sender of a message that a receive took
pub taken_from : (v : ReceivingView) (kept : ReceivingInvariant v) (number : ℕ) (r : Receive) →
    slice_get v.receives number ≡ Some r → (a : Arrival) → r.taken ≡ Some a
    → a.env.from < v.sizes.ranks
taken_from v kept number r here a some =
    let had = kept.tables.taken number r a here some in
    let inside = row_inside v.receipts a.env.from a.n had.0 had.1.0 in
    let n = kept.tables.receipts in
    omega (arith, inside, n)
