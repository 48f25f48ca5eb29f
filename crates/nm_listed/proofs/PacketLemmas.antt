-- Counts of packets, one event and one rank after another.
use Rattle.std.proofs.Common.{◌≡◌, ℕ, zero, suc, ◌+◌, ◌<◌, ◌≤◌, ◌==◌, Bool, true, false, cond, Some, List, [], ◌∷◌, ◌++◌, length}
use Rattle.std.proofs.Common.{map, take, get_or, refl, sym, ◌∙◌, ap, arith, append_assoc, append-nil}
use Rattle.std.specs.Prelude.{if◌then◌else◌, count_by, nat_lt, sum_by}
use Rattle.std.specs.List.{filter, range_with_len, slice_get}
use Rattle.std.proofs.lemmas.List.{length-take, map-append}
use Rattle.std.proofs.lemmas.List.Elements.{filter-append}
use Rattle.std.proofs.lemmas.List.Sums.{sum_by-append, sum_by-take-le}
use Rattle.nm_types.specs.declared.scripts.Line.{Line}
use Rattle.nm_types.specs.Commands.{commands_of}
use Rattle.nm_types.proofs.ListLemmas.{place_below, take_more, take_next}
use Rattle.nm_history.specs.declared.events.Event.{Event}
use Rattle.nm_history.specs.declared.events.Happened.{Happened}
use Rattle.nm_history.specs.declared.events.Happened.TheVariants as event
use Rattle.nm_history.specs.Matching.{matched_pairs}
use Rattle.nm_history.specs.Outgoing.{is_clear, is_recall_to, is_withdraw_from, outgoing, packets_of_send, packets_to}
use Rattle.nm_history.specs.Quiescence.{Ended, Packets, packets_by_rank, packets_from}
use Rattle.nm_history.specs.Sends.{Sent, sends, sent_body}
use Rattle.nm_history.proofs.OutgoingLemmas.{outgoing_count}
use Rattle.nm_history.specs.Outgoing.{packets_of_event, packets_of_events}
use Rattle.nm_listed.specs.Records.{some_packets}

-- the packets of sends, recalls and withdrawals
own_split : (to : ℕ) (h : List Event) →
    packets_of_events to h
    ≡ sum_by packets_of_send (sends h to) + count_by (λ (e : Event). is_recall_to to e.what) h
    + count_by (λ (e : Event). is_withdraw_from to e.what) h
own_split to [] = refl
own_split to (e ∷ h) = by_event e.what e.stamp (own_split to h)
  where
    owns : (e : Event) → packets_of_events to (e ∷ h) ≡ packets_of_events to (e ∷ []) + packets_of_events to h
    owns e = sum_by-append (λ (x : Event). packets_of_event to x.what) (e ∷ []) h

    recalls : (e : Event) → count_by (λ (x : Event). is_recall_to to x.what) (e ∷ h)
        ≡ count_by (λ (x : Event). is_recall_to to x.what) (e ∷ []) + count_by (λ (x : Event). is_recall_to to x.what) h
    recalls e = sum_by-append (λ (x : Event). cond (is_recall_to to x.what) 1 0) (e ∷ []) h

    withdrawals : (e : Event) → count_by (λ (x : Event). is_withdraw_from to x.what) (e ∷ h)
        ≡ count_by (λ (x : Event). is_withdraw_from to x.what) (e ∷ [])
        + count_by (λ (x : Event). is_withdraw_from to x.what) h
    withdrawals e = sum_by-append (λ (x : Event). cond (is_withdraw_from to x.what) 1 0) (e ∷ []) h

    by_event : (what : Happened) (stamp : ℕ) →
        packets_of_events to h
        ≡ sum_by packets_of_send (sends h to) + count_by (λ (e : Event). is_recall_to to e.what) h
        + count_by (λ (e : Event). is_withdraw_from to e.what) h →
        packets_of_events to (record { stamp = stamp; what = what } ∷ h)
        ≡ sum_by packets_of_send (sends (record { stamp = stamp; what = what } ∷ h) to)
        + count_by (λ (e : Event). is_recall_to to e.what) (record { stamp = stamp; what = what } ∷ h)
        + count_by (λ (e : Event). is_withdraw_from to e.what) (record { stamp = stamp; what = what } ∷ h)
    by_event (event.Send to' n tag ctx len how line) stamp rest =
        let own = owns (record { stamp = stamp; what = event.Send to' n tag ctx len how line }) in
        let recall = recalls (record { stamp = stamp; what = event.Send to' n tag ctx len how line }) in
        let withdraw = withdrawals (record { stamp = stamp; what = event.Send to' n tag ctx len how line }) in
        let sent = by_rank (to' == to) in
        omega (arith, rest, own, recall, withdraw, sent)
      where
        s : Sent
        s = record { stamp = stamp; to = to'; n = n; tag = tag; ctx = ctx; len = len; how = how; line = line }

        by_rank : (b : Bool) → sum_by packets_of_send (cond b (s ∷ sends h to) (sends h to))
            ≡ (if b then packets_of_send s else 0) + sum_by packets_of_send (sends h to)
        by_rank true = sum_by-append packets_of_send (s ∷ []) (sends h to) ∙ omega arith
        by_rank false = omega arith
    by_event what stamp rest =
        let own = owns (record { stamp = stamp; what = what }) in
        let recall = recalls (record { stamp = stamp; what = what }) in
        let withdraw = withdrawals (record { stamp = stamp; what = what }) in
        omega (arith, rest, own, recall, withdraw)

-- .. and those that clear messages
pub packets_split : (to : ℕ) (h : List Event) →
    packets_to h to ≡ packets_of_events to h + count_by (is_clear to) (matched_pairs h)
packets_split to h = let own = own_split to h in omega (arith, own)

-- one number more of those below a bound
numbers_next : (n : ℕ) → range_with_len 0 (n + 1) ≡ range_with_len 0 n ++ n ∷ []
numbers_next n =
    let e : n + 1 ≡ suc n = omega arith in
    let place : 0 + n ≡ n = omega arith in
    ap (λ (m : ℕ). range_with_len 0 m) e ∙ more 0 n n place
  where
    more : (a n last : ℕ) → a + n ≡ last → range_with_len a (suc n) ≡ range_with_len a n ++ last ∷ []
    more a zero last is = let e : a ≡ last = omega (arith, is) in ap (λ (k : ℕ). k ∷ []) e
    more a (suc n) last is =
        let e : a + 1 + n ≡ last = omega (arith, is) in ap (λ (xs : List ℕ). a ∷ xs) (more (a + 1) n last e)

-- one count more
pub row_next : (lines : List Line) (from to : ℕ) (h : List Event) →
    packets_from lines (range_with_len 0 (to + 1)) from h
    ≡ packets_from lines (range_with_len 0 to) from h
    ++ some_packets (record { from = from; to = to; count = packets_to h to })
row_next lines from to h =
    ap (λ (tos : List ℕ). filter (λ (p : Packets). nat_lt 0 p.count) (map count_of tos)) (numbers_next to)
    ∙ ap (λ (ps : List Packets). filter (λ (p : Packets). nat_lt 0 p.count) ps)
    (map-append count_of (range_with_len 0 to) (to ∷ []))
    ∙ filter-append (λ (p : Packets). nat_lt 0 p.count) (map count_of (range_with_len 0 to)) (count_of to ∷ [])
    ∙ ap (λ (n : ℕ). packets_from lines (range_with_len 0 to) from h
    ++ some_packets (record { from = from; to = to; count = n }))
    (outgoing_count (sent_body (commands_of from lines)) h to)
  where
    count_of : ℕ → Packets
    count_of to = record { from = from; to = to; count = length (outgoing (sent_body (commands_of from lines)) h to) }

-- one rank more
pub rank_next : (lines : List Line) (all : List ℕ) (from : ℕ) (xs : List Ended) (x : Ended) →
    packets_by_rank lines all from (xs ++ x ∷ [])
    ≡ packets_by_rank lines all from xs ++ packets_from lines all (from + length xs) x.events
rank_next lines all from [] x =
    let place : from ≡ from + 0 = omega arith in
    append-nil (packets_from lines all from x.events) ∙ ap (λ (n : ℕ). packets_from lines all n x.events) place
rank_next lines all from (y ∷ xs) x =
    let place : (from + 1) + length xs ≡ from + length (y ∷ xs) = omega arith in
    ap (λ (ps : List Packets). packets_from lines all from y.events ++ ps)
    (rank_next lines all (from + 1) xs x
    ∙ ap (λ (n : ℕ). packets_by_rank lines all (from + 1) xs ++ packets_from lines all n x.events) place)
    ∙ sym (append_assoc (packets_from lines all from y.events) (packets_by_rank lines all (from + 1) xs)
    (packets_from lines all (from + length (y ∷ xs)) x.events))

-- one event more
pub own_next : (to : ℕ) (h : List Event) (k : ℕ) (e : Event) → k < length h → e ≡ get_or h k e →
    packets_of_events to (take (k + 1) h) ≡ packets_of_events to (take k h) + packets_of_event to e.what
own_next to h k e inside is =
    let pushed = sum_by-append (λ (x : Event). packets_of_event to x.what) (take k h) (e ∷ []) in
    let one : packets_of_events to (e ∷ []) ≡ packets_of_event to e.what = omega arith in
    let same : packets_of_events to (take (k + 1) h) ≡ packets_of_events to (take k h ++ e ∷ []) =
    ap (λ (g : List Event). packets_of_events to g) (take_next h k e inside is) in
    omega (arith, pushed, one, same)

pub own_within : (to : ℕ) (h : List Event) (k : ℕ) (e : Event) → k < length h → e ≡ get_or h k e →
    packets_of_events to (take k h) + packets_of_event to e.what ≤ packets_of_events to h
own_within to h k e inside is =
    let one = own_next to h k e inside is in
    let less = sum_by-take-le (λ (x : Event). packets_of_event to x.what) h (k + 1) in
    omega (arith, one, less)

-- .. in a row
pub row_step : (lines : List Line) (from to : ℕ) (h : List Event) (old now new : List Packets) (n : ℕ) →
    now ≡ old ++ packets_from lines (range_with_len 0 to) from h →
    new ≡ now ++ some_packets (record { from = from; to = to; count = n }) → n ≡ packets_to h to →
    new ≡ old ++ packets_from lines (range_with_len 0 (to + 1)) from h
row_step lines from to h old now new n so_far one is =
    let row : List Packets = packets_from lines (range_with_len 0 to) from h in
    one
    ∙ ap (λ (ps : List Packets). ps ++ some_packets (record { from = from; to = to; count = n })) so_far
    ∙ append_assoc old row (some_packets (record { from = from; to = to; count = n }))
    ∙ ap (λ (m : ℕ). old ++ (row ++ some_packets (record { from = from; to = to; count = m }))) is
    ∙ ap (λ (ps : List Packets). old ++ ps) (sym (row_next lines from to h))

pub row_none : (lines : List Line) (from : ℕ) (h : List Event) (old : List Packets) →
    old ≡ old ++ packets_from lines (range_with_len 0 0) from h
row_none lines from h old = sym (append-nil old)

-- .. and of all ranks
pub rank_step : (lines : List Line) (all : List ℕ) (ends : List Ended) (k : ℕ) (e : Ended) (now new : List Packets) →
    slice_get ends k ≡ Some e → now ≡ packets_by_rank lines all 0 (take k ends) →
    new ≡ now ++ packets_from lines all k e.events → new ≡ packets_by_rank lines all 0 (take (k + 1) ends)
rank_step lines all ends k e now new here so_far one =
    let place : k + 1 ≡ suc k = omega arith in
    let low = place_below ends k e here in
    let long : 0 + length (take k ends) ≡ k = omega (arith, length-take k ends, low) in
    one ∙ ap (λ (ps : List Packets). ps ++ packets_from lines all k e.events) so_far
    ∙ ap (λ (n : ℕ). packets_by_rank lines all 0 (take k ends) ++ packets_from lines all n e.events) (sym long)
    ∙ sym (rank_next lines all 0 (take k ends) e)
    ∙ ap (λ (es : List Ended). packets_by_rank lines all 0 es) (sym (take_more ends k e here))
    ∙ ap (λ (n : ℕ). packets_by_rank lines all 0 (take n ends)) (sym place)
