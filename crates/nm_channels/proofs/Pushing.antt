-- The messages with a body that left are those that were cleared, in that order.
use Rattle.std.proofs.Common.{◌≡◌, ℕ, ◌+◌, ◌<◌, ◌==◌, Bool, true, false, not, ◌&&◌, cond, Option, Some, None, List}
use Rattle.std.proofs.Common.{[], ◌∷◌, ◌++◌, length, refl, sym, ◌∙◌, ap, subst, append-nil, append_assoc}
use Rattle.std.proofs.Common.{length-append, arith}
use Rattle.std.specs.Prelude.{fold}
use Rattle.std.specs.List.{AllByRecursion, filter, filter_map, cons_option, list_any, slice_get}
use Rattle.std.proofs.lemmas.List.Elements.{filter_map-append, filter-append}
use Rattle.nm_types.specs.declared.packets.Packet.{Packet}
use Rattle.nm_types.specs.declared.packets.What.{What}
use Rattle.nm_types.specs.declared.packets.What.TheVariants as what
use Rattle.nm_types.specs.Commands.{Numbered}
use Rattle.nm_history.specs.declared.events.Event.{Event}
use Rattle.nm_history.specs.declared.events.Happened.{Happened}
use Rattle.nm_history.specs.declared.events.Happened.TheVariants.{Out}
use Rattle.nm_history.specs.AtEach.{AtEachAfter}
use Rattle.nm_history.specs.Sends.{Sent, sends}
use Rattle.nm_history.specs.Happens.{happened, is_out}
use Rattle.nm_history.specs.Delivery.{is_asked}
use Rattle.nm_history.specs.RankRun.{Always, NumberAt, EndAt}
use Rattle.nm_history.proofs.AtEachLemmas.{AtEach-split}
use Rattle.nm_history.specs.Known.{Known, Taken, known_by, known_after}
use Rattle.nm_history.specs.Continues.{continues, continues_answer, continues_stream, is_of_stream}
use Rattle.nm_history.specs.Effects.{happenings, is_empty_send, packet_events, whole_if}
use Rattle.nm_history.specs.Clearance.{to_push, left_of, pushed_out}
use Rattle.nm_history.specs.Pieces.{Pulled, Due, piece_makes, is_due}
use Rattle.nm_channels.specs.Moments.{LogEntry, Cause, history_of, taken_from, taken_of, EachMomentAfter}
use Rattle.nm_channels.specs.Moments.Cause.{Acted, Took, Drew}
use Rattle.nm_channels.specs.Sound.{AreSound, MayHappen, MadeBy, OwnEvent}
use Rattle.nm_channels.specs.Ends.{ClearedHaveLeft}
use Rattle.nm_history.proofs.Basic.{self_true, at_true, happened_in}
use Rattle.nm_channels.proofs.Arriving.{known-push}
use Rattle.nm_channels.proofs.Delivering.{history-push}
use Rattle.nm_channels.proofs.Made.{clear_parts, known_cleared}
use Rattle.nm_channels.proofs.Streams.{clear_of}
use Rattle.nm_history.proofs.Sent.{happened-append, sends_grow, sent_number}
use Rattle.nm_history.proofs.Lasting.{filter_same, IsFront, early_numbers, empty_lasts, asked_lasts, asked_early}
use Rattle.nm_history.proofs.Lasting.{left_lasts}
use Rattle.nm_types.proofs.ListLemmas.{all_append, all_along}
use Rattle.nm_types.proofs.TruthLemmas.{or_left, or_right, and_left, and_right}
use Rattle.nm_types.proofs.NumberLemmas.{same_number}

-- of the messages that were cleared those with a body leave in their turn, and the others at once
record Pushes (whole : List Event) (j : ℕ) (h : List Event) (known : Known) : Type 0 where
  sent : AllByRecursion (λ n. n < length (sends h j)) known.cleared
  empty : AllByRecursion (λ n. is_empty_send whole j n ≡ true → happened (is_out j n) h ≡ true) known.cleared
  rest : List ℕ
  front : to_push whole known j ≡ filter_map (λ e. left_of whole j e.what) h ++ rest

more_sent : (j : ℕ) (h more : List Event) (ns : List ℕ) → AllByRecursion (λ n. n < length (sends h j)) ns →
    AllByRecursion (λ n. n < length (sends (h ++ more) j)) ns
more_sent j h more ns each = all_along (λ n. n < length (sends h j)) (λ n. n < length (sends (h ++ more) j)) ns
    (λ n early. omega (arith, early, sends_grow h more j)) each

more_empty : (whole : List Event) (j : ℕ) (h more : List Event) (ns : List ℕ) →
    AllByRecursion (λ n. is_empty_send whole j n ≡ true → happened (is_out j n) h ≡ true) ns →
    AllByRecursion (λ n. is_empty_send whole j n ≡ true → happened (is_out j n) (h ++ more) ≡ true) ns
more_empty whole j h more ns each =
    all_along (λ n. is_empty_send whole j n ≡ true → happened (is_out j n) h ≡ true)
    (λ n. is_empty_send whole j n ≡ true → happened (is_out j n) (h ++ more) ≡ true) ns
    (λ n out is. happened-append (is_out j n) h more ∙ or_left _ _ (out is)) each

-- events in which no message with a body leaves, and messages that are cleared
later_push : (whole : List Event) (j : ℕ) (h more : List Event) (known known' : Known) (new : List ℕ) →
    known'.cleared ≡ known.cleared ++ new → AllByRecursion (λ n. n < length (sends h j)) new →
    AllByRecursion (λ n. is_empty_send whole j n ≡ true → happened (is_out j n) (h ++ more) ≡ true) new →
    filter_map (λ e. left_of whole j e.what) more ≡ [] → Pushes whole j h known → Pushes whole j (h ++ more) known'
later_push whole j h more known known' new is sent out none was =
    let turn : List ℕ = filter (λ n. not (is_empty_send whole j n)) new in
    let past : List ℕ = filter_map (λ e. left_of whole j e.what) h in
    let left : filter_map (λ e. left_of whole j e.what) (h ++ more) ≡ past = filter_map-append
    (λ (e : Event). left_of whole j e.what) h more ∙ ap (λ (ns : List ℕ). past ++ ns) none ∙ append-nil past in
    record {
      sent = subst (λ (ns : List ℕ). AllByRecursion (λ n. n < length (sends (h ++ more) j)) ns) (sym is)
          (all_append (λ n. n < length (sends (h ++ more) j)) known.cleared new
          (more_sent j h more known.cleared was.sent) (more_sent j h more new sent));
      empty = subst (λ (ns : List ℕ). AllByRecursion (λ n. is_empty_send whole j n ≡ true →
          happened (is_out j n) (h ++ more) ≡ true) ns) (sym is)
          (all_append (λ n. is_empty_send whole j n ≡ true → happened (is_out j n) (h ++ more) ≡ true) known.cleared
          new (more_empty whole j h more known.cleared was.empty) out);
      rest = was.rest ++ turn;
      front =
          ap (λ (ns : List ℕ). filter (λ n. not (is_empty_send whole j n)) ns) is
          ∙ filter-append (λ n. not (is_empty_send whole j n)) known.cleared new
          ∙ ap (λ (ns : List ℕ). ns ++ turn) was.front ∙ append_assoc past was.rest turn
          ∙ ap (λ (ns : List ℕ). ns ++ (was.rest ++ turn)) (sym left);
    }

at_front : (xs rest : List ℕ) (n : ℕ) → slice_get (xs ++ rest) (length xs) ≡ Some n →
    (rest' : List ℕ) × (rest ≡ n ∷ rest')
at_front [] [] n found = cc
at_front [] (y ∷ rest) n found = let same : y ≡ n = cc in (rest, ap (λ (k : ℕ). k ∷ rest) same)
at_front (x ∷ xs) rest n found = at_front xs rest n found

-- a message that leaves in its turn
turn_push : (whole : List Event) (j : ℕ) (h : List Event) (e : Event) (known : Known) (n : ℕ) →
    left_of whole j e.what ≡ Some n → slice_get (to_push whole known j)
    (length (filter_map (λ e. left_of whole j e.what) h)) ≡ Some n → Pushes whole j h known →
    Pushes whole j (h ++ e ∷ []) known
turn_push whole j h e known n leaves turn was =
    let past : List ℕ = filter_map (λ e. left_of whole j e.what) h in
    let next = at_front past was.rest n (ap (λ (ns : List ℕ). slice_get ns (length past)) (sym was.front) ∙ turn) in
    let left : filter_map (λ e. left_of whole j e.what) (h ++ e ∷ []) ≡ past ++ n ∷ [] = filter_map-append
    (λ (e : Event). left_of whole j e.what) h (e ∷ []) ∙ ap (λ (o : Option ℕ). past ++ cons_option o []) leaves in
    record {
      sent = more_sent j h (e ∷ []) known.cleared was.sent;
      empty = more_empty whole j h (e ∷ []) known.cleared was.empty;
      rest = next.0;
      front = was.front ∙ ap (λ (ns : List ℕ). past ++ ns) next.1 ∙ sym (append_assoc past (n ∷ []) next.0)
          ∙ ap (λ (ns : List ℕ). ns ++ next.0) (sym left);
    }

-- an event of the rank's own
own_push : (ranks eager : ℕ) (bodies : Sent → List ℕ) (commands : List Numbered) (whole : List Event) (j : ℕ)
    (log : List LogEntry) (h : List Event) (e : Event) → IsFront ranks whole h →
    OwnEvent eager bodies commands log h e.stamp e.what → EndAt h e.what →
    Pushes whole j h (known_by (taken_from j log)) → Pushes whole j (h ++ e ∷ []) (known_by (taken_from j log))
own_push ranks eager bodies commands whole j log h e of' own end' was = by_left (left_of whole j e.what) refl where
  known : Known
  known = known_by (taken_from j log)

  none_new : left_of whole j e.what ≡ None → Pushes whole j (h ++ e ∷ []) known
  none_new none = later_push whole j h (e ∷ []) known known [] (sym (append-nil known.cleared)) tt tt
      (ap (λ (o : Option ℕ). cons_option o []) none) was

  in_turn : (w : Happened) (n : ℕ) → OwnEvent eager bodies commands log h e.stamp w → EndAt h w →
      left_of whole j w ≡ Some n → slice_get (to_push whole known j)
      (length (filter_map (λ e. left_of whole j e.what) h)) ≡ Some n
  in_turn (Out to m) n own end' leaves = by_to (to == j) refl (is_asked (sends whole j) m) refl
      (is_empty_send whole j m) leaves where
        by_to : (x : Bool) → (to == j) ≡ x → (y : Bool) → is_asked (sends whole j) m ≡ y →
            (z : Bool) → cond (x && y && not z) (Some m) None ≡ Some n → slice_get (to_push whole known j)
            (length (filter_map (λ e. left_of whole j e.what) h)) ≡ Some n
        by_to false test y asked z leaves = cc
        by_to true test false asked z leaves = cc
        by_to true test true asked true leaves = cc
        by_to true test true asked false leaves =
            let m_n : m ≡ n = cc in
            let to_j : to ≡ j = same_number to j test in
            let numbers_h = early_numbers ranks whole h of' in
            let early_to : m < length (sends h to) = sent_number ranks h to m numbers_h end'.1 in
            let count : length (sends h to) ≡ length (sends h j) = ap (λ (k : ℕ). length (sends h k)) to_j in
            let early : m < length (sends h j) = omega (arith, early_to, count) in
            let asked_h : is_asked (sends h to) m ≡ true = ap (λ (k : ℕ). is_asked (sends h k) m) to_j
            ∙ asked_lasts ranks j m whole h of' early ∙ asked in
            let turn : slice_get (to_push h known j) (length (pushed_out h j)) ≡ Some m =
            subst (λ (k : ℕ). slice_get (to_push h (known_by (taken_from k log)) k) (length (pushed_out h k)) ≡ Some m)
            to_j (at_true (is_asked (sends h to) m) asked_h own) in
            let same_turn : to_push h known j ≡ to_push whole known j =
            filter_same (λ n. not (is_empty_send h j n)) (λ n. not (is_empty_send whole j n)) known.cleared
            (all_along (λ n. n < length (sends h j)) (λ n. not (is_empty_send h j n) ≡ not (is_empty_send whole j n))
            known.cleared (λ n early. ap (λ (b : Bool). not b) (empty_lasts ranks j n whole h of' early)) was.sent) in
            let same_left : pushed_out h j ≡ filter_map (λ e. left_of whole j e.what) h =
            left_lasts ranks j whole h of' in
            ap (λ (ns : List ℕ). slice_get ns (length (filter_map (λ e. left_of whole j e.what) h))) (sym same_turn)
            ∙ ap (λ (ns : List ℕ). slice_get (to_push h known j) (length ns)) (sym same_left) ∙ turn
            ∙ ap (λ (k : ℕ). Some k) m_n
  in_turn w n own end' leaves = cc

  by_left : (o : Option ℕ) → left_of whole j e.what ≡ o → Pushes whole j (h ++ e ∷ []) known
  by_left None none = none_new none
  by_left (Some n) leaves = turn_push whole j h e known n leaves (in_turn e.what n own end' leaves) was

own_pushes : (ranks eager : ℕ) (bodies : Sent → List ℕ) (commands : List Numbered) (whole : List Event) (j : ℕ)
    (log : List LogEntry) (h events : List Event) → IsFront ranks whole (h ++ events) →
    AtEachAfter (λ h e. OwnEvent eager bodies commands log h e.stamp e.what) h events →
    Pushes whole j h (known_by (taken_from j log)) → Pushes whole j (h ++ events) (known_by (taken_from j log))
own_pushes ranks eager bodies commands whole j log h [] of' own was =
    subst (λ (k : List Event). Pushes whole j k (known_by (taken_from j log))) (sym (append-nil h)) was
own_pushes ranks eager bodies commands whole j log h (e ∷ events) of' own was =
    let split : whole ≡ h ++ (e ∷ events ++ of'.more) = of'.split ∙ append_assoc h (e ∷ events) of'.more in
    let of_h : IsFront ranks whole h = record {
      more = e ∷ events ++ of'.more;
      split = split;
      numbers =
          of'.numbers;
      ends = of'.ends;
    } in
    let end' = AtEach-split (λ before e. EndAt before e.what) h e (events ++ of'.more)
    (subst (λ (k : List Event). Always EndAt k) split of'.ends) in
    let of_next : IsFront ranks whole ((h ++ e ∷ []) ++ events) = record {
      more = of'.more;
      split = of'.split
          ∙ ap (λ (k : List Event). k ++ of'.more) (sym (append_assoc h (e ∷ []) events));
      numbers = of'.numbers;
      ends =
          of'.ends;
    } in
    subst (λ (k : List Event). Pushes whole j k (known_by (taken_from j log))) (append_assoc h (e ∷ []) events)
    (own_pushes ranks eager bodies commands whole j log (h ++ e ∷ []) events of_next own.1
    (own_push ranks eager bodies commands whole j log h e of_h own.0 end' was))

-- no message with a body leaves by what happens
abbrev NoneLeft : List Event → ℕ → Happened → Type 0
NoneLeft whole j w = left_of whole j w ≡ None

none_left : (whole : List Event) (j : ℕ) (events : List Event) → AllByRecursion (NoneLeft whole j)
    (happenings events) → filter_map (λ e. left_of whole j e.what) events ≡ []
none_left whole j [] each = refl
none_left whole j (e ∷ events) each = rw (each.0, none_left whole j events each.1) refl

whole_left : (whole : List Event) (j : ℕ) (b : Bool) (from n : ℕ) → AllByRecursion (NoneLeft whole j)
    (whole_if b from n)
whole_left whole j true from n = (refl, tt)
whole_left whole j false from n = tt

piece_left : (whole : List Event) (j from : ℕ) (o : Option Due) (d : Pulled) → AllByRecursion (NoneLeft whole j)
    (piece_makes from o d.piece)
piece_left whole j from None d = tt
piece_left whole j from (Some due) d = whole_left whole j (is_due d.piece due && due.last) from d.piece.n

-- an empty message that leaves has no turn
empty_left : (whole : List Event) (j from n : ℕ) → (from ≡ j → is_empty_send whole j n ≡ true) →
    NoneLeft whole j (Out from n)
empty_left whole j from n empty = by_from (from == j) refl (is_asked (sends whole j) n) where
  by_from : (x : Bool) → (from == j) ≡ x → (y : Bool) → cond (x && y && not (is_empty_send whole j n)) (Some n) None
      ≡ None
  by_from false test y = refl
  by_from true test false = refl
  by_from true test true = rw (empty (same_number from j test)) refl

packet_left : (whole : List Event) (j : ℕ) (known : Known) (h : List Event) (from size : ℕ) (w : What) →
    ((n : ℕ) → w ≡ what.Clear n → from ≡ j → is_empty_send h from n ≡ true → is_empty_send whole j n ≡ true) →
    AllByRecursion (NoneLeft whole j) (packet_events known h from w size)
packet_left whole j known h from size (what.Head tag ctx len) lasts =
    (refl, all_append (NoneLeft whole j) _ [] (whole_left whole j (len == size) from known.count) tt)
packet_left whole j known h from size (what.More n) lasts = all_append (NoneLeft whole j) _ []
    (whole_left whole j (known.missing == size) from n) tt
packet_left whole j known h from size (what.Ask tag ctx len) lasts = (refl, whole_left whole j _ from known.count)
packet_left whole j known h from size (what.Clear n) lasts = all_append (NoneLeft whole j) _ []
    (by_empty (is_empty_send h from n) (lasts n refl)) tt where
      by_empty : (b : Bool) → (from ≡ j → b ≡ true → is_empty_send whole j n ≡ true) → AllByRecursion (NoneLeft whole j)
          (cond b (Out from n ∷ []) [])
      by_empty true lasts = (empty_left whole j from n (λ is. lasts is refl), tt)
      by_empty false lasts = tt
packet_left whole j known h from size (what.Withdraw n) lasts = (refl, tt)
packet_left whole j known h from size (what.Withdrawn n done) lasts = (refl, tt)

-- a clearance that continued is of a message that was sent by asking
clear_asked : (eager : ℕ) (known : Known) (h : List Event) (p : Packet) (n : ℕ) → continues eager known h p ≡ true →
    p.what ≡ what.Clear n → is_asked (sends h p.from) n ≡ true
clear_asked eager known h p n goes is = by_what p.what (and_right _ _ goes) is where
  by_what : (w : What) → cond (is_of_stream w) (continues_stream eager known w (length p.payload))
      (continues_answer known h p.from w (length p.payload)) ≡ true → w ≡ what.Clear n →
      is_asked (sends h p.from) n ≡ true
  by_what (what.Clear m) goes is = let same : m ≡ n = cc in ap (λ (k : ℕ). is_asked (sends h p.from) k) (sym same)
      ∙ and_left _ _ (and_left _ _ (and_left _ _ goes))
  by_what w goes is = cc

-- what an empty message's clearance makes happen
empty_out : (known : Known) (h : List Event) (from n size : ℕ) (w : What) → w ≡ what.Clear n →
    is_empty_send h from n ≡ true → list_any (is_out from n) (packet_events known h from w size) ≡ true
empty_out known h from n size (what.Clear m) is empty = let same : m ≡ n = cc in
    rw (same, empty, self_true from, self_true n) refl
empty_out known h from n size w is empty = cc

new_each : (P : ℕ → Type 0) (j : ℕ) (t : Taken) →
    ((n : ℕ) → t.packet.from ≡ j → t.continued ≡ true → t.packet.what ≡ what.Clear n → P n) →
    AllByRecursion P (filter_map clear_of (cons_option (taken_of j (Took t)) []))
new_each P j t holds = by_from (t.packet.from == j) refl where
  by_clear : (o : Option ℕ) → clear_of t ≡ o → t.packet.from ≡ j → AllByRecursion P (cons_option o [])
  by_clear None is from = tt
  by_clear (Some n) is from = let parts = clear_parts n t is in (holds n from parts.0 parts.1, tt)

  by_from : (b : Bool) → (t.packet.from == j) ≡ b →
      AllByRecursion P (filter_map clear_of (cons_option (cond b (Some t) None) []))
  by_from false test = tt
  by_from true test = by_clear (clear_of t) refl (same_number t.packet.from j test)

-- a moment
cause_push : (ranks eager : ℕ) (bodies : Sent → List ℕ) (commands : List Numbered) (whole : List Event) (j : ℕ)
    (before : List LogEntry) (c : Cause) (events : List Event) → IsFront ranks whole (history_of before ++ events) →
    MadeBy eager bodies commands before c events → Pushes whole j (history_of before)
    (known_by (taken_from j before)) → Pushes whole j (history_of before ++ events)
    (fold known_after (known_by (taken_from j before)) (cons_option (taken_of j c) []))
cause_push ranks eager bodies commands whole j before Acted events of' made was =
    own_pushes ranks eager bodies commands whole j before (history_of before) events of' made was
cause_push ranks eager bodies commands whole j before (Drew d) events of' made was =
    later_push whole j (history_of before) events (known_by (taken_from j before)) (known_by (taken_from j before)) []
    (sym (append-nil (known_by (taken_from j before)).cleared)) tt tt
    (none_left whole j events (subst (λ (ws : List Happened). AllByRecursion (NoneLeft whole j) ws) (sym made.2)
    (piece_left whole j d.piece.from _ d))) was
cause_push ranks eager bodies commands whole j before (Took t) events of' made was =
    later_push whole j h events known (fold known_after known (cons_option (taken_of j (Took t)) []))
    (filter_map clear_of (cons_option (taken_of j (Took t)) []))
    (known_cleared known (cons_option (taken_of j (Took t)) []))
    (new_each (λ n. n < length (sends h j)) j t (λ n from goes is. early n from goes is))
    (new_each (λ n. is_empty_send whole j n ≡ true → happened (is_out j n) (h ++ events) ≡ true) j t
    (λ n from goes is empty.
    let empty_h : is_empty_send h j n ≡ true = empty_lasts ranks j n whole h of_h (early n from goes is) ∙ empty in
    happened-append (is_out j n) h events ∙ or_right _ _
    (ap (λ (k : ℕ). happened (is_out k n) events) (sym from) ∙ happened_in (is_out t.packet.from n) events
    ∙ ap (λ (ws : List Happened). list_any (is_out t.packet.from n) ws)
    (made.1 ∙ ap (λ (b : Bool). cond b (packet_events kn h t.packet.from t.packet.what (length t.packet.payload))
    []) goes)
    ∙ empty_out kn h t.packet.from n (length t.packet.payload) t.packet.what is
    (ap (λ (k : ℕ). is_empty_send h k n) from ∙ empty_h))))
    (none_left whole j events (subst (λ (ws : List Happened). AllByRecursion (NoneLeft whole j) ws) (sym made.1)
    (by_goes t.continued refl))) was
  where
    h : List Event
    h = history_of before

    known : Known
    known = known_by (taken_from j before)

    kn : Known
    kn = known_by (taken_from t.packet.from before)

    of_h : IsFront ranks whole (history_of before)
    of_h = record {
      more = events ++ of'.more;
      split = of'.split ∙ append_assoc (history_of before) events of'.more;
      numbers = of'.numbers;
      ends = of'.ends;
    }

    early : (n : ℕ) → t.packet.from ≡ j → t.continued ≡ true → t.packet.what ≡ what.Clear n →
        n < length (sends (history_of before) j)
    early n from goes is =
        asked_early ranks j n (history_of before) (early_numbers ranks whole (history_of before) of_h)
        (ap (λ (k : ℕ). is_asked (sends (history_of before) k) n) (sym from)
        ∙ clear_asked eager (known_by (taken_from t.packet.from before)) (history_of before) t.packet n
        (sym made.0 ∙ goes) is)

    by_goes : (b : Bool) → t.continued ≡ b → AllByRecursion (NoneLeft whole j)
        (cond b (packet_events (known_by (taken_from t.packet.from before)) (history_of before) t.packet.from
        t.packet.what (length t.packet.payload)) [])
    by_goes false goes = tt
    by_goes true goes =
        packet_left whole j (known_by (taken_from t.packet.from before)) (history_of before) t.packet.from
        (length t.packet.payload) t.packet.what
        (λ n is from empty. sym (empty_lasts ranks j n whole (history_of before) of_h (early n from goes is))
        ∙ ap (λ (k : ℕ). is_empty_send (history_of before) k n) (sym from) ∙ empty)

log_pushes : (ranks eager : ℕ) (bodies : Sent → List ℕ) (commands : List Numbered) (whole : List Event) (j : ℕ)
    (before log : List LogEntry) → EachMomentAfter (MayHappen eager bodies commands) before log →
    whole ≡ history_of before ++ history_of log → Always (NumberAt ranks) whole → Always EndAt whole →
    Pushes whole j (history_of before) (known_by (taken_from j before)) →
    Pushes whole j whole (known_by (taken_from j before ++ taken_from j log))
log_pushes ranks eager bodies commands whole j before [] sound split numbers ends was =
    subst (λ (k : List Event). Pushes whole j k (known_by (taken_from j before ++ [])))
    (sym (split ∙ append-nil (history_of before)))
    (subst (λ (ts : List Taken). Pushes whole j (history_of before) (known_by ts))
    (sym (append-nil (taken_from j before))) was)
log_pushes ranks eager bodies commands whole j before (m ∷ log) sound split numbers ends was =
    let of' : IsFront ranks whole (history_of before ++ m.events) = record {
      more = history_of log;
      split = split
          ∙ sym (append_assoc (history_of before) m.events (history_of log));
      numbers = numbers;
      ends = ends;
    } in
    let step = cause_push ranks eager bodies commands whole j before m.cause m.events of' sound.0.made was in
    let next : Pushes whole j (history_of (before ++ m ∷ [])) (known_by (taken_from j (before ++ m ∷ []))) =
    subst (λ (h : List Event). Pushes whole j h (known_by (taken_from j (before ++ m ∷ []))))
    (sym (history-push before m))
    (subst (λ (known : Known). Pushes whole j (history_of before ++ m.events) known) (sym (known-push before m j))
    step) in
    let taken : taken_from j (before ++ m ∷ []) ++ taken_from j log ≡ taken_from j before ++ taken_from j (m ∷ log) =
    sym (filter_map-append (λ (m : LogEntry). taken_of j m.cause) (before ++ m ∷ []) log)
    ∙ ap (λ (l : List LogEntry). taken_from j l) (append_assoc before (m ∷ []) log)
    ∙ filter_map-append (λ (m : LogEntry). taken_of j m.cause) before (m ∷ log) in
    subst (λ (ts : List Taken). Pushes whole j whole (known_by ts)) taken
    (log_pushes ranks eager bodies commands whole j (before ++ m ∷ []) log sound.1
    (of'.split ∙ ap (λ (h : List Event). h ++ history_of log) (sym (history-push before m))) numbers ends next)

no_rest : (xs ys rest : List ℕ) → ys ≡ xs ++ rest → length xs ≡ length ys → ys ≡ xs
no_rest xs ys [] same count = same ∙ append-nil xs
no_rest xs ys (x ∷ rest) same count = let more : length ys ≡ length xs + length (x ∷ rest) =
    ap (λ (ns : List ℕ). length ns) same ∙ length-append xs (x ∷ rest) in absurd (omega (arith, more, count))

-- the messages with a body that left are those that were cleared, and each empty message that was
-- cleared has left
pub all_pushed : (ranks eager : ℕ) (bodies : Sent → List ℕ) (commands : List Numbered) (j : ℕ) (log : List LogEntry) →
    AreSound eager bodies commands log → Always (NumberAt ranks) (history_of log) → Always EndAt (history_of log) →
    ClearedHaveLeft log j →
    (to_push (history_of log) (known_by (taken_from j log)) j ≡ pushed_out (history_of log) j)
    × AllByRecursion (λ n. is_empty_send (history_of log) j n ≡ true → happened (is_out j n) (history_of log) ≡ true)
    (known_by (taken_from j log)).cleared
all_pushed ranks eager bodies commands j log sound numbers ends cleared =
    let all = log_pushes ranks eager bodies commands (history_of log) j [] log sound refl numbers ends
    (record { sent = tt; empty = tt; rest = []; front = refl }) in (
      no_rest (pushed_out (history_of log) j) (to_push (history_of log) (known_by (taken_from j log)) j) all.rest
          all.front cleared,
      all.empty,
    )
