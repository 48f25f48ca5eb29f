-- In a run each arrival has its send, and so its arrow.
use Rattle.std.proofs.Common.{◌≡◌, ℕ, ◌+◌, ◌≤◌, ◌<◌, ◌⊎◌, inl, inr, ◌==◌, zero, suc, List, [], ◌∷◌, ◌++◌, Bool}
use Rattle.std.proofs.Common.{true, false, cond, ◌&&◌}
use Rattle.std.proofs.Common.{refl, sym, ap, ◌∙◌, subst, arith, length, nat_lt, get_or, Option, Some, append-nil}
use Rattle.std.specs.Prelude.{IfSome}
use Rattle.std.specs.List.{cons_option, filter, filter_map, slice_get}
use Rattle.std.proofs.lemmas.Bool.{eqb-true, eqb-false, ltb-true, ltb-false}
use Rattle.std.proofs.lemmas.List.{length-append, length-map}
use Rattle.std.proofs.lemmas.List.Elements.{filter_map-append, filter-append}
use Rattle.std.proofs.lemmas.Option.{slice_get-get_or, slice_get-map}
use Rattle.std.specs.Option.{option_map}
use Rattle.nm_types.specs.declared.messages.Arrival.{Arrival}
use Rattle.nm_types.specs.declared.scripts.Line.{Line}
use Rattle.nm_types.specs.Commands.{commands_of}
use Rattle.nm_types.specs.Sizes.{Sizes}
use Rattle.nm_history.specs.declared.events.Event.{Event}
use Rattle.nm_history.specs.declared.events.Happened.{Happened}
use Rattle.nm_history.specs.declared.events.Happened.TheVariants.{Send, Post, Arrive, Whole, Out}
use Rattle.nm_history.specs.declared.events.Happened.TheVariants.{Cancel, Recall, Withdraw}
use Rattle.nm_history.specs.declared.events.Happened.TheVariants.{Undone, Claim, Match, Ran}
use Rattle.nm_history.specs.AtEach.{AtEach, AtEachAfter}
use Rattle.nm_history.specs.Delivery.{AreDelivered, ArriveInOrder}
use Rattle.nm_history.specs.RankRun.{IsRankRun, NumberAt, StampAt}
use Rattle.nm_history.specs.Sends.{Arrived, Sent, arrivals, arrived_of, sends, sent_of}
use Rattle.nm_history.proofs.AtEachLemmas.{AtEach-split}
use Rattle.nm_history.proofs.DeliveryLemmas.{sends-push}
use Rattle.nm_history.proofs.OnceLemmas.{eqb_self}
use Rattle.nm_report.specs.declared.accounts.RankAccount.{RankAccount}
use Rattle.nm_report.specs.declared.records.RunRecord.{RunRecord}
use Rattle.nm_report.specs.Ends.{end_of_account, ends_of}
use Rattle.nm_report.specs.Lawful.{IsRunIn}
use Rattle.nm_diagram.specs.declared.frames.Span.{Span}
use Rattle.nm_diagram.specs.declared.anchors.Anchor.TheVariants as anchor
use Rattle.nm_diagram.specs.declared.arrows.Arrow.{Arrow}
use Rattle.nm_diagram.specs.declared.frames.Frame.{Frame}
use Rattle.nm_diagram.specs.declared.frames.Part.{Part}
use Rattle.nm_diagram.specs.Anchors.{first_stamp}
use Rattle.nm_diagram.specs.Diagrams.{arrow_from, arrows_at, sent_by}
use Rattle.nm_diagram.specs.Frames.{IsFrame, IsIn, is_shown, shown_count}
use Rattle.nm_diagram.specs.Joined.{HasOneArrow, IsSentBefore}
use Rattle.nm_diagram.proofs.ArrowLemmas.{found_among}
use Rattle.nm_diagram.proofs.FrameLemmas.{in-shown}
use Rattle.nm_diagram.proofs.ShapeLemmas.{sent_by-found}
use Rattle.nm_diagram.proofs.StampLemmas.{stamps-rise}

abbrev event_of : ℕ → Happened → Event
event_of stamp w = record { stamp = stamp; what = w }

-- how many sends there are behind one event more
count_same : (before : List Event) (e : Event) (j : ℕ) →
    filter (λ s. s.to == j) (cons_option (sent_of e.stamp e.what) []) ≡ [] →
    length (sends (before ++ e ∷ []) j) ≡ length (sends before j)
count_same before e j none =
    ap length (sends-push before e j ∙ ap (λ l. sends before j ++ l) none ∙ append-nil (sends before j))

count_more : (before : List Event) (e : Event) (j : ℕ) (s : Sent) →
    filter (λ s. s.to == j) (cons_option (sent_of e.stamp e.what) []) ≡ s ∷ [] →
    length (sends (before ++ e ∷ []) j) ≡ length (sends before j) + 1
count_more before e j s one =
    ap length (sends-push before e j ∙ ap (λ l. sends before j ++ l) one)
    ∙ length-append (sends before j) (s ∷ [])

passed : (b : Bool) (x y : Option ℕ) → cond (b && false) x y ≡ y
passed true x y = refl
passed false x y = refl

-- the send of a number is found in the events that are left, of which the first ones had so many
abbrev Finds : Span → ℕ → List Event → List Event → Sent → ℕ → Type 0
Finds span j before events s n =
    first_stamp span (anchor.Send j (length (sends before j) + n)) events ≡ Some s.stamp

-- behind an event that is no send to this rank
other_event : (span : Span) (j : ℕ) (before : List Event) (e : Event) (events : List Event) (s : Sent) (n : ℕ)
    (b : Bool) →
    filter (λ s. s.to == j) (cons_option (sent_of e.stamp e.what) []) ≡ [] →
    Finds span j (before ++ e ∷ []) events s n →
    cond (b && false) (Some e.stamp) (first_stamp span (anchor.Send j (length (sends before j) + n)) events)
    ≡ Some s.stamp
other_event span j before e events s n b none finds =
    passed b (Some e.stamp) (first_stamp span (anchor.Send j (length (sends before j) + n)) events)
    ∙ ap (λ c. first_stamp span (anchor.Send j (c + n)) events) (sym (count_same before e j none))
    ∙ finds

-- at a send
at_send : (span : Span) (j to m : ℕ) (before events : List Event) (e : Event) (s0 s : Sent) (n : ℕ)
    (mine shown hit : Bool) →
    (to == j) ≡ mine → is_shown span e ≡ shown → (m == length (sends before j) + n) ≡ hit →
    s0.stamp ≡ e.stamp →
    filter (λ s. s.to == j) (cons_option (sent_of e.stamp e.what) []) ≡ cond mine (s0 ∷ []) [] →
    m ≡ length (sends before to) → slice_get (cond mine (s0 ∷ sends events j) (sends events j)) n ≡ Some s →
    IsIn span s.stamp → ((k : ℕ) → slice_get (sends events j) k ≡ Some s → Finds span j (before ++ e ∷ []) events s k) →
    cond (shown && (mine && hit)) (Some e.stamp) (first_stamp span (anchor.Send j (length (sends before j) + n)) events)
    ≡ Some s.stamp
at_send span j to m before events e s0 s n false shown hit is_mine is_shown is_hit at sent number got below rest =
    other_event span j before e events s n shown sent (rest n got)
at_send span j to m before events e s0 s zero true true true is_mine is_shown is_hit at sent number got below rest =
    let same : s0 ≡ s = cc in
    ap Some (sym at ∙ ap (λ x. x.stamp) same)
at_send span j to m before events e s0 s zero true false hit is_mine is_shown is_hit at sent number got below rest =
    let same : s0 ≡ s = cc in
    let stamp : s.stamp ≡ e.stamp = sym (ap (λ x. x.stamp) same) ∙ at in
    let shown = in-shown span e (subst (λ n. IsIn span n) stamp below) in
    absurd (never (sym shown ∙ is_shown)) where
      never : true ≡ false → ⊥
      never h = cc
at_send span j to m before events e s0 s zero true true false is_mine is_shown is_hit at sent number got below rest =
    let count = ap (λ k. length (sends before k)) (eqb-true to j is_mine) in
    absurd (eqb-false m (length (sends before j) + 0) is_hit (omega (arith, number, count)))
at_send span j to m before events e s0 s (suc k) true shown true is_mine is_shown is_hit at sent number got below rest =
    let count = ap (λ k. length (sends before k)) (eqb-true to j is_mine) in
    let same = eqb-true m (length (sends before j) + suc k) is_hit in
    absurd (omega (arith, number, count, same))
at_send span j to m before events e s0 s (suc k) true shown false is_mine is_shown is_hit at sent number got below
    rest =
    let count : length (sends before j) + suc k ≡ length (sends (before ++ e ∷ []) j) + k =
    (let more = count_more before e j s0 sent in omega (arith, more)) in
    passed shown (Some e.stamp) (first_stamp span (anchor.Send j (length (sends before j) + suc k)) events)
    ∙ ap (λ c. first_stamp span (anchor.Send j c) events) count
    ∙ rest k got

-- at each event
at_event : (span : Span) (j ranks stamp : ℕ) (before : List Event) (w : Happened) (events : List Event) (s : Sent)
    (n : ℕ) →
    NumberAt ranks before w → slice_get (sends (event_of stamp w ∷ events) j) n ≡ Some s → IsIn span s.stamp →
    ((k : ℕ) → slice_get (sends events j) k ≡ Some s → Finds span j (before ++ event_of stamp w ∷ []) events s k) →
    Finds span j before (event_of stamp w ∷ events) s n
at_event span j ranks stamp before (Send to m tag ctx len how line) events s n number got below rest =
    let e = event_of stamp (Send to m tag ctx len how line) in
    let s0 : Sent = record { stamp = stamp; to = to; n = m; tag = tag; ctx = ctx; len = len; how = how; line = line } in
    at_send span j to m before events e s0 s n (to == j) (is_shown span e) (m == length (sends before j) + n)
    refl refl refl refl refl number got below rest
at_event span j ranks stamp before (Post p line) events s n number got below rest =
    other_event span j before (event_of stamp (Post p line)) events s n (is_shown span (event_of stamp (Post p line)))
    refl (rest n got)
at_event span j ranks stamp before (Arrive a) events s n number got below rest =
    other_event span j before (event_of stamp (Arrive a)) events s n (is_shown span (event_of stamp (Arrive a))) refl
    (rest n got)
at_event span j ranks stamp before (Whole from m) events s n number got below rest =
    other_event span j before (event_of stamp (Whole from m)) events s n
    (is_shown span (event_of stamp (Whole from m))) refl (rest n got)
at_event span j ranks stamp before (Out to m) events s n number got below rest =
    other_event span j before (event_of stamp (Out to m)) events s n (is_shown span (event_of stamp (Out to m))) refl
    (rest n got)
at_event span j ranks stamp before (Cancel m done) events s n number got below rest =
    other_event span j before (event_of stamp (Cancel m done)) events s n
    (is_shown span (event_of stamp (Cancel m done))) refl (rest n got)
at_event span j ranks stamp before (Recall to m) events s n number got below rest =
    other_event span j before (event_of stamp (Recall to m)) events s n (is_shown span (event_of stamp (Recall to m)))
    refl (rest n got)
at_event span j ranks stamp before (Withdraw from m done) events s n number got below rest =
    other_event span j before (event_of stamp (Withdraw from m done)) events s n
    (is_shown span (event_of stamp (Withdraw from m done))) refl (rest n got)
at_event span j ranks stamp before (Undone to m done) events s n number got below rest =
    other_event span j before (event_of stamp (Undone to m done)) events s n
    (is_shown span (event_of stamp (Undone to m done))) refl (rest n got)
at_event span j ranks stamp before (Claim from m line) events s n number got below rest =
    other_event span j before (event_of stamp (Claim from m line)) events s n
    (is_shown span (event_of stamp (Claim from m line))) refl (rest n got)
at_event span j ranks stamp before (Match m from k cap line) events s n number got below rest =
    other_event span j before (event_of stamp (Match m from k cap line)) events s n
    (is_shown span (event_of stamp (Match m from k cap line))) refl (rest n got)
at_event span j ranks stamp before (Ran line answer) events s n number got below rest =
    other_event span j before (event_of stamp (Ran line answer)) events s n
    (is_shown span (event_of stamp (Ran line answer))) refl (rest n got)

finds : (span : Span) (j ranks : ℕ) (before events : List Event) (s : Sent) (n : ℕ) →
    AtEachAfter (λ b e. NumberAt ranks b e.what) before events → slice_get (sends events j) n ≡ Some s →
    IsIn span s.stamp → Finds span j before events s n
finds span j ranks before [] s n numbers got below = absurd cc
finds span j ranks before (e ∷ events) s n numbers got below =
    at_event span j ranks e.stamp before e.what events s n numbers.0 got below
    (λ k h. finds span j ranks (before ++ e ∷ []) events s k numbers.1 h below)

found_in_run : (span : Span) (j ranks : ℕ) (h : List Event) (s : Sent) (n : ℕ) →
    AtEach (λ b e. NumberAt ranks b e.what) h →
    slice_get (sends h j) n ≡ Some s → IsIn span s.stamp → first_stamp span (anchor.Send j n) h ≡ Some s.stamp
unfolding AtEach
found_in_run span j ranks h s n numbers got below =
    let none : n ≡ 0 + n = omega arith in
    ap (λ k. first_stamp span (anchor.Send j k) h) none ∙ finds span j ranks [] h s n numbers got below

-- the send of an arrival, by its place
at_place : (i : ℕ) (ss : List Sent) (xs : List Arrived) (y : Arrived) (ys : List Arrived) →
    ArriveInOrder i ss (xs ++ y ∷ ys) → (s : Sent) × (slice_get ss (length xs) ≡ Some s) × (s.stamp < y.stamp)
at_place i [] [] y ys h = absurd h
at_place i [] (x ∷ xs) y ys h = absurd h
at_place i (s ∷ ss) [] y ys h = (s, refl, h.1)
at_place i (s ∷ ss) (x ∷ xs) y ys h = at_place i ss xs y ys h.2

-- the arrivals before and behind one
arrivals_at : (before after : List Event) (stamp : ℕ) (a : Arrival) →
    arrivals (before ++ event_of stamp (Arrive a) ∷ after) a.env.from
    ≡ arrivals before a.env.from ++ record { stamp = stamp; arrival = a } ∷ arrivals after a.env.from
arrivals_at before after stamp a =
    let e = event_of stamp (Arrive a) in
    let test : Arrived → Bool = λ x. x.arrival.env.from == a.env.from in
    let arrived : Event → Option Arrived = λ e. arrived_of e.stamp e.what in
    let y : Arrived = record { stamp = stamp; arrival = a } in
    ap (λ l. filter test l) (filter_map-append arrived before (e ∷ after))
    ∙ filter-append test (filter_map arrived before) (filter_map arrived (e ∷ after))
    ∙ ap (λ b. arrivals before a.env.from ++ cond b (y ∷ arrivals after a.env.from) (arrivals after a.env.from))
    (eqb_self a.env.from)

sent_of_arrival : (shape : Sizes) (rank : ℕ) (hi hj before after : List Event) (stamp : ℕ) (a : Arrival) →
    AtEach (λ b e. NumberAt shape.ranks b e.what) hj → hj ≡ before ++ event_of stamp (Arrive a) ∷ after →
    ArriveInOrder a.env.from (sends hi rank) (arrivals hj a.env.from) →
    (s : Sent) × (slice_get (sends hi rank) a.n ≡ Some s) × (s.stamp < stamp)
sent_of_arrival shape rank hi hj before after stamp a numbers split order =
    let y : Arrived = record { stamp = stamp; arrival = a } in
    let here = AtEach-split (λ b e. NumberAt shape.ranks b e.what) before (event_of stamp (Arrive a)) after
    (subst (λ l. AtEach (λ b e. NumberAt shape.ranks b e.what) l) split numbers) in
    let in_order = subst (λ l. ArriveInOrder a.env.from (sends hi rank) l)
    (ap (λ l. arrivals l a.env.from) split ∙ arrivals_at before after stamp a) order in
    let placed = at_place a.env.from (sends hi rank) (arrivals before a.env.from) y (arrivals after a.env.from)
    in_order in
    (placed.0, ap (λ k. slice_get (sends hi rank) k) here.1 ∙ placed.1, placed.2)

-- the arrow of an arrival whose send is found
pub arrow_made : (span : Span) (rank stamp sent : ℕ) (ranks : List RankAccount) (a : Arrival) → IsIn span stamp →
    sent_by span rank a.n (slice_get ranks a.env.from) ≡ Some sent →
    arrows_at span ranks rank (event_of stamp (Arrive a))
    ≡ record { from = a.env.from; sent = sent; to = rank; arrived = stamp; n = a.n; how = a.env.how } ∷ []
arrow_made span rank stamp sent ranks a shown found =
    let by : List Arrow = arrow_from a.env.from rank stamp a.n a.env.how
    (sent_by span rank a.n (slice_get ranks a.env.from)) in
    ap (λ b. cond b by []) (in-shown span (event_of stamp (Arrive a)) shown)
    ∙ ap (λ o. arrow_from a.env.from rank stamp a.n a.env.how o) found

-- an arrival whose message was sent in the run was sent before the first stamp, or has its arrow
abbrev before_stamp : ℕ → Span
before_stamp first = record { first = 0; end = first }

joined : (span : Span) (many rank stamp : ℕ) (ranks : List RankAccount) (sender : RankAccount) (a : Arrival) (s : Sent)
    (b : Bool) → slice_get ranks a.env.from ≡ Some sender → shown_count span ranks ≤ 20000 → IsIn span stamp →
    s.stamp < stamp → AtEach (λ b e. NumberAt many b e.what) sender.history.events →
    AtEach (λ b e. StampAt b e.stamp) sender.history.events →
    slice_get (sends sender.history.events rank) a.n ≡ Some s → nat_lt s.stamp span.first ≡ b →
    IsSentBefore span.first ranks rank a ⊎ HasOneArrow span ranks rank stamp a
joined span many rank stamp ranks sender a s true comes few shown earlier numbers stamps got early =
    let hi = sender.history.events in
    let found = found_in_run (before_stamp span.first) rank many hi s a.n numbers got
    (omega arith, ltb-true s.stamp span.first early) in
    inl (record {
      sender = sender;
      comes_from = comes;
      sent = s.stamp;
      at = found_among (before_stamp span.first) s.stamp (anchor.Send rank a.n) hi found;
    })
joined span many rank stamp ranks sender a s false comes few shown earlier numbers stamps got late =
    let hi = sender.history.events in
    let below = shown.1 in
    let found = found_in_run span rank many hi s a.n numbers got
    (ltb-false s.stamp span.first late, omega (arith, earlier, below)) in
    let shaft = sent_by-found span a.env.from rank a.n s.stamp ranks sender few comes (stamps-rise hi stamps) found in
    inr (record { sent = s.stamp; before = earlier; one = arrow_made span rank stamp s.stamp ranks a shown shaft })

end_got : (ranks : List RankAccount) (i : ℕ) (account : RankAccount) → slice_get ranks i ≡ Some account →
    slice_get (ends_of ranks) i ≡ Some (end_of_account account)
end_got ranks i account got = slice_get-map end_of_account ranks i ∙ ap (λ o. option_map end_of_account o) got

pub arrival_has_arrow : (shape : Sizes) (lines : List Line) (run : RunRecord) (part : Part) (frame : Frame) →
    IsRunIn shape lines run → IsFrame part run.ranks frame → (rank stamp : ℕ) (receiver : RankAccount) (a : Arrival)
    (before after : List Event) → slice_get run.ranks rank ≡ Some receiver →
    receiver.history.events ≡ before ++ event_of stamp (Arrive a) ∷ after → IsIn frame.span stamp →
    IsSentBefore frame.span.first run.ranks rank a ⊎ HasOneArrow frame.span run.ranks rank stamp a
arrival_has_arrow shape lines run part frame is of_ranks rank stamp receiver a before after got split shown =
    let ranks = run.ranks in
    let from = a.env.from in
    let lawful = is.lawful in
    let hj = receiver.history.events in
    let its = subst (λ o. IfSome o (λ e. IsRankRun shape (commands_of rank lines) e.at e.events))
    (end_got ranks rank receiver got) (lawful.rank_runs rank) in
    let here = AtEach-split (λ b e. NumberAt shape.ranks b e.what) before (event_of stamp (Arrive a)) after
    (subst (λ l. AtEach (λ b e. NumberAt shape.ranks b e.what) l) split its.numbers) in
    let many = lawful.one_each in
    let mapped = length-map ranks end_of_account in
    let within = here.0 in
    let sender = get_or ranks from receiver in
    let comes = slice_get-get_or ranks from receiver (omega (arith, within, many, mapped)) in
    let theirs = subst (λ o. IfSome o (λ e. IsRankRun shape (commands_of from lines) e.at e.events))
    (end_got ranks from sender comes) (lawful.rank_runs from) in
    let hi = sender.history.events in
    let of_sender = subst (λ o. IfSome o (λ x. (j : ℕ) → IfSome (slice_get (ends_of ranks) j)
    (λ y. AreDelivered from j (commands_of from lines) (commands_of j lines) x.events y.events)))
    (end_got ranks from sender comes) (lawful.delivered from) in
    let delivered = subst (λ o. IfSome o
    (λ y. AreDelivered from rank (commands_of from lines) (commands_of rank lines) hi y.events))
    (end_got ranks rank receiver got) (of_sender rank) in
    let sent = sent_of_arrival shape rank hi hj before after stamp a its.numbers split delivered.messages in
    let few = subst (λ n. shown_count (record { first = n; end = frame.span.end }) ranks ≤ 20000) (sym of_ranks.first)
    of_ranks.few in
    joined frame.span shape.ranks rank stamp ranks sender a sent.0 (nat_lt sent.0.stamp frame.span.first) comes few
    shown sent.2 theirs.numbers theirs.stamps sent.1 refl
