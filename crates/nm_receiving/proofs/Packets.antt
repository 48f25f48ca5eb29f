-- How the tables go on by a packet: a message begins, goes on, or is announced.
use Rattle.std.specs.Prelude.{IfSome, IsSome, is_some}
use Rattle.std.proofs.Common.{◌≡◌, ℕ, ◌+◌, ◌<◌, ◌≤◌, ◌==◌, Bool, true, false, not, ◌&&◌, cond, min, nat_le, nat_lt}
use Rattle.std.proofs.Common.{Option, Some, None, List, [], ◌∷◌, ◌++◌}
use Rattle.std.proofs.Common.{length, get_or, refl, sym, ◌∙◌, ap, subst, append-nil, arith}
use Rattle.std.specs.Bool.{then_some}
use Rattle.std.specs.List.{slice_get}
use Rattle.std.specs.Option.{option_map, option_map_or}
use Rattle.std.proofs.Math.ListN.{set}
use Rattle.std.proofs.lemmas.Bool.{and_parts, eqb-true, false_from_ne_true, false≢true, ltb-true, true≢false}
use Rattle.std.proofs.lemmas.List.{get_or-set_other, get_or-set_same, length-set}
use Rattle.std.proofs.lemmas.Option.{same_Some}
use Rattle.nm_types.specs.declared.limits.TheConstants.{MAX_PAYLOAD, MAX_TAG, MAX_BODY}
use Rattle.nm_types.specs.declared.messages.Arrival.{Arrival}
use Rattle.nm_types.specs.declared.messages.How.TheVariants.{Ask, Eager}
use Rattle.nm_types.specs.declared.messages.Post as post
use Rattle.nm_types.specs.declared.packets.Packet.{Packet}
use Rattle.nm_types.specs.declared.packets.What.{What}
use Rattle.nm_types.specs.declared.packets.What.TheVariants as what
use Rattle.nm_types.specs.Sizes.{Sizes}
use Rattle.nm_history.specs.declared.events.Event.{Event}
use Rattle.nm_history.specs.declared.events.Happened.TheVariants.{Arrive, Whole}
use Rattle.nm_history.specs.Matching.{first_receive, is_of_receive, is_open, matched_pairs}
use Rattle.nm_history.specs.Selection.{matches}
use Rattle.nm_history.specs.Sends.{is_ask, posts}
use Rattle.nm_history.specs.Effects.{packet_events, whole_if}
use Rattle.nm_history.specs.Happens.{at}
use Rattle.nm_match.specs.declared.deeds.Deed.{Deed}
use Rattle.nm_match.specs.declared.deeds.Deed.TheVariants as deed
use Rattle.nm_match.specs.Deeds.{history_of}
use Rattle.nm_match.proofs.StandsLemmas.{first_receive-stands}
use Rattle.nm_eager.specs.Streams.{IsStream, Stream, begun, carried_on, continues, message_of, missing, nothing_came}
use Rattle.nm_eager.specs.Streams.{skipped}
use Rattle.nm_rndv.specs.Grants.{Granted, fresh, grant_in}
use Rattle.nm_receiving.specs.declared.receipts.Receipt.{Receipt}
use Rattle.nm_receiving.specs.declared.receipts.Receive.{Receive}
use Rattle.nm_receiving.specs.Kept.{AreGrantedFor, TablesAgree, HasBytes, IsGranted, IsJoined, ReceivingInvariant}
use Rattle.nm_receiving.specs.Receipts.{ReceivingView, granted_to, receipt_of, receipts_from, stream_of}
use Rattle.nm_receiving.specs.Received.{TakesPacket}
use Rattle.nm_receiving.specs.Steps.{grants_with, made_whole, rows_from, rows_with, rows_with_whole}
use Rattle.nm_receiving.specs.Steps.{with_taken}
use Rattle.nm_receiving.proofs.Arriving.{came_may_mark, kept-came, none_granted_yet, receive_caps, row_came}
use Rattle.nm_receiving.proofs.Grants.{grant_new, granted_new}
use Rattle.nm_receiving.proofs.Coming.{came, newcomer, taken_by, with_newcomer}
use Rattle.nm_receiving.proofs.Goings.{goes_on, like-push, names_of}
use Rattle.nm_receiving.proofs.Joinings.{begun_joined, begun_longer, begun_missing, skipped_longer, skipped_missing}
use Rattle.nm_receiving.proofs.Lists.{row-same, slice_get-last, some_from}
use Rattle.nm_receiving.proofs.Marking.{marked}
use Rattle.nm_receiving.proofs.Stood.{stood_of}
use Rattle.nm_receiving.proofs.TablesCarry.{AreCarried, carried_may_mark, goes_on_here, tables-carried}
use Rattle.nm_receiving.proofs.TablesMark.{owed-marked, tables-marked}
use Rattle.nm_receiving.proofs.TablesRest.{like_itself, owed-still}
use Rattle.nm_receiving.proofs.Taking.{IsAtOnce, IsNext, MayEnd, keeps-came, keeps-marked, marked_if, streams_apart}
use Rattle.nm_kept.proofs.EntryLemmas.{kept_there}
use Rattle.nm_match.proofs.QueueLemmas.{open_means}
use Rattle.nm_receiving.specs.Receives.{is_live, live_at}
use Rattle.nm_receiving.proofs.Overs.{open_incomplete}
use Rattle.nm_types.proofs.ListLemmas.{find_nothing, find_passes}
use Rattle.nm_types.proofs.OptionLemmas.{if_each}
use Rattle.nm_types.proofs.TruthLemmas.{and_right}

-- the receive that takes a message is open, so it did not end
pub taker_live : (v : ReceivingView) (kept : ReceivingInvariant v) (a : Arrival) (taker : Option ℕ)
    → taker ≡ option_map (λ p. p.number) (first_receive (history_of v.deeds) (matched_pairs (history_of v.deeds)) a.env)
    → IfSome taker (λ number. IsSome (live_at v.receives number))
taker_live v kept a taker is =
    subst (λ (k : Option ℕ). IfSome k (λ number. IsSome (live_at v.receives number))) (sym is)
    (by (first_receive (history_of v.deeds) (matched_pairs (history_of v.deeds)) a.env) refl)
  where
    h : List Event
    h = kept.history

    by : (o : Option post.Post) → first_receive (history_of v.deeds) (matched_pairs (history_of v.deeds)) a.env ≡ o
        → IfSome (option_map (λ p. p.number) o) (λ number. IsSome (live_at v.receives number))
    by None oldest = tt
    by (Some p) oldest =
        let had = receive_caps v kept a (Some p) oldest p refl in
        let r : Receive = had.0 in
        let passes = find_passes (λ (p : post.Post). matches p.from p.tag p.ctx a.env && is_open h (matched_pairs h) p)
        (posts h) p (first_receive-stands v.deeds h kept.received.stands a.env ∙ oldest) in
        let means = open_means h (matched_pairs h) p
        (and_right (matches p.from p.tag p.ctx a.env) (is_open h (matched_pairs h) p) passes) in
        let open' = open_incomplete h p.number
        (find_nothing (is_of_receive p.number) (matched_pairs h) means.0) means.1 in
        let live : r.ended ≡ false = false_from_ne_true r.ended (λ ended. false≢true (sym open'
        ∙ kept.over p.number (ap (λ (o : Option Receive). option_map_or (λ r. r.ended) o false) had.1.there ∙ ended)))
        in
        ap (λ (o : Option Receive). is_some o) (kept_there is_live (slice_get v.receives p.number) r had.1.there
        (ap not live))

-- an eager message begins
module _ (v : ReceivingView) (kept : ReceivingInvariant v) (p : Packet) (tag ctx len : ℕ) (head : p.what ≡ what.Head tag ctx len)
    (sender : p.from < v.sizes.ranks)
    (goes : continues v.sizes.eager (stream_of v p.from).count (missing (stream_of v p.from)) p.what
    (length p.payload) ≡ true)
    (right : IsStream (stream_of v p.from)) (o : Option post.Post) where
  abbrev pub headed : Arrival
  headed = record {
    n = length (receipts_from v p.from);
    env =
        record { from = p.from; tag = tag; ctx = ctx; len = len; how = Eager };
  }

  abbrev pub head_streams : List Stream
  head_streams = set v.streams p.from (begun (stream_of v p.from) len p.payload)

  abbrev pub is_all : Bool
  is_all = len == length p.payload

  abbrev pub head_view : ReceivingView
  head_view = marked_if is_all (came v head_streams headed (option_map (λ p. p.number) o)) p.from headed.n

  tests : (missing (stream_of v p.from) == 0 && nat_le len v.sizes.eager && nat_le tag MAX_TAG && length p.payload ==
      min MAX_PAYLOAD len) ≡ true
  tests = subst (λ (w : What). continues v.sizes.eager (stream_of v p.from).count (missing (stream_of v p.from)) w
      (length p.payload) ≡ true) head goes

  pub finished : missing (stream_of v p.from) ≡ 0
  finished =
      let three = and_parts (missing (stream_of v p.from) == 0 && nat_le len v.sizes.eager && nat_le tag MAX_TAG)
      (length p.payload == min MAX_PAYLOAD len) tests in
      let two = and_parts (missing (stream_of v p.from) == 0 && nat_le len v.sizes.eager) (nat_le tag MAX_TAG) three.0
      in
      let one = and_parts (missing (stream_of v p.from) == 0) (nat_le len v.sizes.eager) two.0 in
      eqb-true (missing (stream_of v p.from)) 0 one.0

  inside : p.from < length v.streams
  inside = let n = kept.tables.streams in omega (arith, sender, n)

  counted : headed.n ≡ (stream_of v p.from).count
  counted = sym (kept.tables.counts p.from)

  next : IsNext v headed
  next = record {
    sender = sender;
    receipts = let n = kept.tables.receipts in omega (arith, sender, n);
    grants = let n = kept.tables.grants in omega (arith, sender, n);
    next = refl;
  }

  at_once : IsAtOnce headed o is_all
  at_once = record { empty = λ empty. absurd (false≢true empty); asked = λ _ asked. absurd (false≢true asked) }

  complete : is_all ≡ true → HasBytes (came v head_streams headed (option_map (λ p. p.number) o)) (newcomer headed)
      → HasBytes (came v head_streams headed (option_map (λ p. p.number) o)) (made_whole (newcomer headed))
  complete all had =
      let full : len ≡ length p.payload = eqb-true len (length p.payload) all in
      record {
        granted = λ asked. absurd (false≢true asked);
        joined = λ _. some_from (IsJoined (made_whole (newcomer headed)))
            (message_of (get_or head_streams p.from nothing_came) headed.n)
            (record { n = (stream_of v p.from).count; len = len; bytes = p.payload })
            (begun_joined v headed p.payload inside counted refl finished right)
            (record { len = refl; whole = λ _. omega (arith, full) });
      }

  pub kept-head : first_receive (history_of v.deeds) (matched_pairs (history_of v.deeds)) headed.env ≡ o →
      ReceivingInvariant head_view
  kept-head oldest =
      kept-came v kept head_streams headed o next (begun_longer v headed p.payload inside counted refl finished right)
      oldest is_all at_once
      (λ all. came_may_mark v kept head_streams headed o next
      (begun_longer v headed p.payload inside counted refl finished right) oldest
      (λ asked. absurd (false≢true asked)) (λ asked. absurd (false≢true asked)) (complete all)
      (let full : len ≡ length p.payload = eqb-true len (length p.payload) all in
      let left = begun_missing v headed p.payload inside counted refl finished right in
      omega (arith, full, left)))

  pub takes-head : first_receive (history_of v.deeds) (matched_pairs (history_of v.deeds)) headed.env ≡ o →
      TakesPacket v head_view p
  takes-head oldest h events known count missed happens received right' =
      let number : known.count ≡ headed.n = count ∙ kept.tables.counts p.from in
      keeps-came v head_streams headed o is_all next at_once (receive_caps v kept headed o oldest) h received right'
      (first_receive-stands v.deeds h received.stands headed.env ∙ oldest) events
      (happens ∙ ap (λ (w : What). packet_events known h p.from w (length p.payload)) head
      ∙ append-nil _
      ∙ ap (λ (k : ℕ). Arrive (record { n = k; env = headed.env }) ∷ whole_if is_all p.from k) number)

  -- the fields afterwards
  pub head_is : (arrival : Arrival) (taker : Option ℕ) (whole : Bool) (sizes : Sizes) (deeds : List Deed)
      (streams : List Stream)
      (rows : List (List Receipt)) (rs : List Receive) → arrival ≡ headed → taker ≡ option_map (λ p. p.number) o →
      whole ≡ is_all
      → sizes ≡ v.sizes → deeds ≡ v.deeds ++ deed.Arrive arrival ∷ [] → streams ≡ head_streams
      → rows ≡ set v.receipts p.from (rows_from v.receipts p.from ++ record { arrival = arrival; whole = whole } ∷ [])
      → rs ≡ with_taken v.receives taker arrival
      → ◌≡◌ {A = ReceivingView} head_view
      (record {
        sizes = sizes;
        deeds = deeds;
        streams = streams;
        grants = v.grants;
        receipts = rows;
        receives =
            rs;
        drawn = v.drawn;
      })
  head_is arrival taker whole sizes deeds streams rows rs arr took all sizes_is deeds_is streams_is rows_is rs_is =
      rw (sizes_is, deeds_is, streams_is, rows_is, rs_is, arr, took, all)
      (ap (λ (gs : List (List (ℕ × Granted))). let w : ReceivingView = record head_view { grants = gs } in w)
      (same_grants o)
      ∙ ap (λ (rows : List (List Receipt)). let w : ReceivingView =
      record head_view { grants = v.grants; receipts = rows } in w)
      (sym (row_came v.receipts headed is_all next.receipts refl)))
    where
      same_grants : (q : Option post.Post) → grants_with v.grants (taken_by (option_map (λ p. p.number) q) headed)
          ≡ v.grants
      same_grants None = refl
      same_grants (Some q) = refl

-- a message is announced
module _ (v : ReceivingView) (kept : ReceivingInvariant v) (p : Packet) (tag ctx len : ℕ) (ask : p.what ≡ what.Ask tag ctx len)
    (sender : p.from < v.sizes.ranks)
    (goes : continues v.sizes.eager (stream_of v p.from).count (missing (stream_of v p.from)) p.what
    (length p.payload) ≡ true)
    (o : Option post.Post) where
  abbrev pub announced : Arrival
  announced = record {
    n = length (receipts_from v p.from);
    env =
        record { from = p.from; tag = tag; ctx = ctx; len = len; how = Ask };
  }

  abbrev pub ask_streams : List Stream
  ask_streams = set v.streams p.from (skipped (stream_of v p.from))

  abbrev pub is_done : Bool
  is_done = len == 0 && is_some o

  abbrev pub ask_view : ReceivingView
  ask_view = marked_if is_done (came v ask_streams announced (option_map (λ p. p.number) o)) p.from announced.n

  tests' : (missing (stream_of v p.from) == 0 && nat_le len MAX_BODY && nat_le tag MAX_TAG && length p.payload == 0)
      ≡ true
  tests' = subst (λ (w : What). continues v.sizes.eager (stream_of v p.from).count (missing (stream_of v p.from)) w
      (length p.payload) ≡ true) ask goes

  pub ask_finished : missing (stream_of v p.from) ≡ 0
  ask_finished =
      let three = and_parts (missing (stream_of v p.from) == 0 && nat_le len MAX_BODY && nat_le tag MAX_TAG)
      (length p.payload == 0) tests' in
      let two = and_parts (missing (stream_of v p.from) == 0 && nat_le len MAX_BODY) (nat_le tag MAX_TAG) three.0 in
      let one = and_parts (missing (stream_of v p.from) == 0) (nat_le len MAX_BODY) two.0 in
      eqb-true (missing (stream_of v p.from)) 0 one.0

  inside' : p.from < length v.streams
  inside' = let n = kept.tables.streams in omega (arith, sender, n)

  next' : IsNext v announced
  next' = record {
    sender = sender;
    receipts = let n = kept.tables.receipts in omega (arith, sender, n);
    grants = let n = kept.tables.grants in omega (arith, sender, n);
    next = refl;
  }

  at_once' : IsAtOnce announced o is_done
  at_once' = record {
    empty = λ empty some. ap (λ (b : Bool). b && is_some o) empty ∙ some;
    asked = λ done _. let both = and_parts (len == 0) (is_some o) done in both.1;
  }

  -- no byte of it is missing where it has none
  complete_ask : len ≡ 0 → is_some o ≡ true → HasBytes (came v ask_streams announced (option_map (λ p. p.number) o))
      (newcomer announced)
      → HasBytes (came v ask_streams announced (option_map (λ p. p.number) o)) (made_whole (newcomer announced))
  complete_ask none some had = record {
    granted = λ _. some_from (IsGranted (made_whole (newcomer announced)))
        (grant_in (granted_to (came v ask_streams announced (option_map (λ p. p.number) o)) p.from) announced.n)
        (fresh len) (there o some)
        (record { len = refl; bytes = λ _. sym none });
    joined = λ eager. absurd (true≢false eager);
  }
    where
      there : (q : Option post.Post) → is_some q ≡ true
          → grant_in (granted_to (came v ask_streams announced (option_map (λ p. p.number) q)) p.from) announced.n
          ≡ Some (fresh len)
      there None is = absurd (false≢true is)
      there (Some q) is =
          ap (λ (row : List (ℕ × Granted)). grant_in row announced.n)
          (granted_new v.grants announced refl next'.grants p.from refl)
          ∙ grant_new (granted_to v p.from) announced.n (fresh len) (none_granted_yet v kept p.from announced.n refl)

  pub kept-ask : first_receive (history_of v.deeds) (matched_pairs (history_of v.deeds)) announced.env ≡ o →
      ReceivingInvariant ask_view
  kept-ask oldest =
      kept-came v kept ask_streams announced o next' (skipped_longer v announced inside' refl ask_finished) oldest
      is_done at_once'
      (λ done. let both = and_parts (len == 0) (is_some o) done in
      came_may_mark v kept ask_streams announced o next' (skipped_longer v announced inside' refl ask_finished) oldest
      (λ _. eqb-true len 0 both.0) (λ _. both.1) (complete_ask (eqb-true len 0 both.0) both.1)
      (skipped_missing v announced inside' refl ask_finished))

  pub takes-ask : first_receive (history_of v.deeds) (matched_pairs (history_of v.deeds)) announced.env ≡ o →
      TakesPacket v ask_view p
  takes-ask oldest h events known count missed happens received right' =
      let number : known.count ≡ announced.n = count ∙ kept.tables.counts p.from in
      let oldest_h = first_receive-stands v.deeds h received.stands announced.env ∙ oldest in
      keeps-came v ask_streams announced o is_done next' at_once' (receive_caps v kept announced o oldest) h received
      right' oldest_h events
      (happens ∙ ap (λ (w : What). packet_events known h p.from w (length p.payload)) ask
      ∙ ap (λ (q : Option post.Post). Arrive (record { n = known.count; env = announced.env }) ∷ whole_if
      (len == 0 && is_some q) p.from known.count) oldest_h
      ∙ ap (λ (k : ℕ). Arrive (record { n = k; env = announced.env }) ∷ whole_if is_done p.from k) number)

  -- the fields afterwards
  pub ask_is : (arrival : Arrival) (taker : Option ℕ) (taken : Option Arrival) (sizes : Sizes) (deeds : List Deed)
      (streams : List Stream)
      (grants : List (List (ℕ × Granted))) (rows : List (List Receipt)) (rs : List Receive) → arrival ≡ announced
      → taker ≡ option_map (λ p. p.number) o → taken ≡ taken_by taker arrival
      → sizes ≡ v.sizes → deeds ≡ v.deeds ++ deed.Arrive arrival ∷ [] → streams ≡ ask_streams
      → grants ≡ grants_with v.grants taken
      → rows ≡ rows_with (set v.receipts p.from
      (rows_from v.receipts p.from ++ record { arrival = arrival; whole = false } ∷ [])) taken
      → rs ≡ with_taken v.receives taker arrival
      → ◌≡◌ {A = ReceivingView} ask_view
      (record {
        sizes = sizes;
        deeds = deeds;
        streams = streams;
        grants = grants;
        receipts = rows;
        receives =
            rs;
        drawn = v.drawn;
      })
  ask_is arrival taker taken sizes deeds streams grants rows rs arr took is sizes_is deeds_is streams_is grants_is
      rows_is rs_is =
      rw (sizes_is, deeds_is, streams_is, grants_is, rows_is, rs_is, is, arr, took)
      (ap (λ (rows : List (List Receipt)). let w : ReceivingView = record ask_view { receipts = rows } in w)
      (same_rows o (len == 0) refl))
    where
      same_rows : (q : Option post.Post) (b : Bool) → (len == 0) ≡ b
          → cond (len == 0 && is_some q) (rows_with_whole (with_newcomer v.receipts announced) p.from announced.n)
          (with_newcomer v.receipts announced)
          ≡ rows_with (with_newcomer v.receipts announced) (taken_by (option_map (λ p. p.number) q) announced)
      same_rows None true is = rw is refl
      same_rows None false is = rw is refl
      same_rows (Some q) true is = rw is refl
      same_rows (Some q) false is = rw is refl

-- an eager message goes on
module _ (v : ReceivingView) (kept : ReceivingInvariant v) (p : Packet) (n : ℕ) (more : p.what ≡ what.More n)
    (sender : p.from < v.sizes.ranks)
    (goes : continues v.sizes.eager (stream_of v p.from).count (missing (stream_of v p.from)) p.what
    (length p.payload) ≡ true)
    (right : IsStream (stream_of v p.from)) where
  abbrev pub more_streams : List Stream
  more_streams = set v.streams p.from (carried_on (stream_of v p.from) n p.payload)

  abbrev pub is_last : Bool
  is_last = missing (stream_of v p.from) == length p.payload

  abbrev carried : ReceivingView
  carried = record v { streams = more_streams }

  abbrev pub more_view : ReceivingView
  more_view = marked_if is_last carried p.from n

  tests'' : (nat_lt 0 (missing (stream_of v p.from)) && n + 1 == (stream_of v p.from).count && length p.payload ==
      min MAX_PAYLOAD (missing (stream_of v p.from))) ≡ true
  tests'' = subst (λ (w : What). continues v.sizes.eager (stream_of v p.from).count (missing (stream_of v p.from)) w
      (length p.payload) ≡ true) more goes

  some_missing : 0 < missing (stream_of v p.from)
  some_missing =
      let two = and_parts (nat_lt 0 (missing (stream_of v p.from)) && n + 1 == (stream_of v p.from).count)
      (length p.payload == min MAX_PAYLOAD (missing (stream_of v p.from))) tests'' in
      let one = and_parts (nat_lt 0 (missing (stream_of v p.from))) (n + 1 == (stream_of v p.from).count) two.0 in
      ltb-true 0 (missing (stream_of v p.from)) one.0

  counted_last : n + 1 ≡ (stream_of v p.from).count
  counted_last =
      let two = and_parts (nat_lt 0 (missing (stream_of v p.from)) && n + 1 == (stream_of v p.from).count)
      (length p.payload == min MAX_PAYLOAD (missing (stream_of v p.from))) tests'' in
      let one = and_parts (nat_lt 0 (missing (stream_of v p.from))) (n + 1 == (stream_of v p.from).count) two.0 in
      eqb-true (n + 1) (stream_of v p.from).count one.1

  within : length p.payload ≤ missing (stream_of v p.from)
  within =
      let two = and_parts (nat_lt 0 (missing (stream_of v p.from)) && n + 1 == (stream_of v p.from).count)
      (length p.payload == min MAX_PAYLOAD (missing (stream_of v p.from))) tests'' in
      let size = eqb-true (length p.payload) (min MAX_PAYLOAD (missing (stream_of v p.from))) two.1 in
      omega (arith, size)

  inside'' : p.from < length v.streams
  inside'' = let k = kept.tables.streams in omega (arith, sender, k)

  are_carried : AreCarried v more_streams p.from n p.payload
  are_carried = record {
    streams' = length-set v.streams p.from (carried_on (stream_of v p.from) n p.payload);
    same = λ i differ. get_or-set_other v.streams p.from i (carried_on (stream_of v p.from) n p.payload) nothing_came
        differ;
    here = get_or-set_same v.streams p.from (carried_on (stream_of v p.from) n p.payload) nothing_came inside'';
  }

  pub the_receipt : (r : Receipt) × (receipt_of v p.from n ≡ Some r) × (is_ask r.arrival.env.how ≡ false)
      × (r.whole ≡ false)
  the_receipt = goes_on_here v kept.history more_streams p.from n p.payload kept.tables are_carried right counted_last
      within some_missing

  may_end : (h : List Event) → (r : Receipt) × MayEnd carried h p.from n r
  may_end h = (
    the_receipt.0,
    record {
      here = the_receipt.1;
      whole = the_receipt.3;
      taken = λ asked. absurd (true≢false (sym asked ∙ the_receipt.2));
    },
  )

  tables-more : TablesAgree carried kept.history
  tables-more = tables-carried v kept.history more_streams p.from n p.payload kept.tables are_carried right
      counted_last within

  owed-more : AreGrantedFor carried kept.history
  owed-more = owed-still v carried kept.history kept.history refl refl (like_itself kept.history) kept.owed

  pub kept-more : ReceivingInvariant more_view
  kept-more = by is_last refl
    where
      by : (b : Bool) → is_last ≡ b → ReceivingInvariant more_view
      by false later =
          subst (λ (b : Bool). ReceivingInvariant (marked_if b carried p.from n)) (sym later)
          (record {
            history = kept.history;
            received = streams_apart v more_streams kept.history kept.received;
            right = kept.right;
            in_time = kept.in_time;
            tables = tables-more;
            owed = owed-more;
            over = kept.over;
          })
      by true last =
          let h : List Event = kept.history in
          let x : Event = at 0 (Whole p.from n) in
          let received1 = streams_apart v more_streams h kept.received in
          let r = the_receipt.0 in
          let name = names_of v h kept.received p.from n r the_receipt.1 in
          subst (λ (b : Bool). ReceivingInvariant (marked_if b carried p.from n)) (sym last)
          (goes_on v (marked carried p.from n) kept (x ∷ []) refl (λ _ is. is)
          (keeps-marked carried p.from n true h (x ∷ []) refl received1 kept.right (λ _. may_end h))
          (λ i k. refl)
          (tables-marked carried h (h ++ x ∷ []) (stood_of carried h received1) p.from n r tables-more
          (like-push h x refl refl)
          (carried_may_mark v h more_streams p.from n p.payload kept.tables are_carried right counted_last within
          (eqb-true (missing (stream_of v p.from)) (length p.payload) last) r the_receipt.1 the_receipt.2 name.0))
          (owed-marked carried h (h ++ x ∷ []) (stood_of carried h received1) p.from n r the_receipt.1
          (like-push h x refl refl) (λ i k _. owed-more i k)))

  pub takes-more : TakesPacket v more_view p
  takes-more h events known count missed happens received right' =
      keeps-marked carried p.from n is_last h events
      (happens ∙ ap (λ (w : What). packet_events known h p.from w (length p.payload)) more ∙ append-nil _
      ∙ ap (λ (k : ℕ). whole_if (k == length p.payload) p.from n) missed)
      (streams_apart v more_streams h received) right' (λ _. may_end h)

  pub more_came : IsSome (receipt_of v p.from n)
  more_came = ap (λ (o : Option Receipt). is_some o) the_receipt.1

  -- the fields afterwards
  pub more_is : (last : Bool) (sizes : Sizes) (streams : List Stream) (rows : List (List Receipt)) → last ≡ is_last →
      sizes ≡ v.sizes
      → streams ≡ more_streams → rows ≡ cond last (rows_with_whole v.receipts p.from n) v.receipts
      → ◌≡◌ {A = ReceivingView} more_view
      (record {
        sizes = sizes;
        deeds = v.deeds;
        streams = streams;
        grants = v.grants;
        receipts = rows;
        receives =
            v.receives;
        drawn = v.drawn;
      })
  more_is last sizes streams rows last_is sizes_is streams_is rows_is = rw (sizes_is, streams_is, rows_is, last_is) refl

-- an announced message that a receive takes may be granted
module _ (v : ReceivingView) (kept : ReceivingInvariant v) (b : Bool) (arrival : Arrival) (taken : Option Arrival)
    (is : taken ≡ then_some b arrival)
    (inside : arrival.env.from < length v.receipts) (next : arrival.n ≡ length (receipts_from v arrival.env.from)) where
  it_is : (a : Arrival) → taken ≡ Some a → arrival ≡ a
  it_is a some = by b (sym is ∙ some)
    where
      by : (b : Bool) → then_some b arrival ≡ Some a → arrival ≡ a
      by true there = same_Some arrival a there
      by false there = absurd (let h : ⊥ = cc in h)

  pub ask_grant-new : (grants : List (List (ℕ × Granted))) → grants ≡ v.grants →
      IfSome taken (λ a. grant_in (get_or grants a.env.from []) a.n ≡ None)
  ask_grant-new grants same = if_each (λ (a : Arrival). grant_in (get_or grants a.env.from []) a.n ≡ None) taken
      (λ a some. subst (λ (a : Arrival). grant_in (get_or grants a.env.from []) a.n ≡ None) (it_is a some)
      (ap (λ (gs : List (List (ℕ × Granted))). grant_in (get_or gs arrival.env.from []) arrival.n) same
      ∙ none_granted_yet v kept arrival.env.from arrival.n next))

  pub ask_grant-came : (rows : List (List Receipt)) (r : Receipt)
      → rows ≡ set v.receipts arrival.env.from (rows_from v.receipts arrival.env.from ++ r ∷ [])
      → IfSome taken (λ a. IsSome (slice_get (get_or rows a.env.from []) a.n))
  ask_grant-came rows r pushed = if_each (λ (a : Arrival). IsSome (slice_get (get_or rows a.env.from []) a.n)) taken
      (λ a some. subst (λ (a : Arrival). IsSome (slice_get (get_or rows a.env.from []) a.n)) (it_is a some)
      (ap (λ (o : Option Receipt). is_some o)
      (ap (λ (rows : List (List Receipt)). slice_get (get_or rows arrival.env.from []) arrival.n) pushed
      ∙ ap (λ (row : List Receipt). slice_get row arrival.n)
      (row-same v.receipts arrival.env.from (rows_from v.receipts arrival.env.from ++ r ∷ []) arrival.env.from refl
      inside)
      ∙ slice_get-last (rows_from v.receipts arrival.env.from) r arrival.n next)))

pub then_taken : (taker : Option ℕ) (arrival : Arrival) → then_some (is_some taker) arrival ≡ taken_by taker arrival
then_taken None arrival = refl
then_taken (Some k) arrival = refl
