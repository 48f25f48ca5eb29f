-- Where a record is at rest, so are its places.
use Rattle.std.proofs.Common.{◌≡◌, ◌⊎◌, inl, inr, ℕ, ◌<◌, ◌==◌, ◌&&◌, ◌||◌, not, Bool, true, false}
use Rattle.std.proofs.Common.{Option, Some, None, List, [], length, refl, sym, ◌∙◌, ap, subst}
use Rattle.std.proofs.Common.{arith, take, length-take-le}
use Rattle.std.specs.Prelude.{Contains, IfSome, MatchOption, if◌then◌else◌, is_some}
use Rattle.std.specs.Prelude.{option_and_then, option_map}
use Rattle.std.specs.List.{AllByRecursion, filter_map, slice_get}
use Rattle.std.specs.Option.{option_map_or}
use Rattle.std.proofs.lemmas.Bool.{false≢true}
use Rattle.std.proofs.lemmas.List.{length-map}
use Rattle.nm_types.specs.declared.answers.Answer.TheVariants as answer
use Rattle.nm_types.specs.declared.messages.Arrival.{Arrival}
use Rattle.nm_types.specs.declared.messages.Envelope.{Envelope}
use Rattle.nm_types.specs.declared.scripts.Command.{Command}
use Rattle.nm_types.specs.declared.scripts.Command.TheVariants as command
use Rattle.nm_types.specs.declared.scripts.Line.{Line}
use Rattle.nm_types.specs.Commands.{Numbered, commands_of}
use Rattle.nm_types.specs.Sizes.{Sizes}
use Rattle.nm_history.specs.declared.events.Event.{Event}
use Rattle.nm_history.specs.declared.events.Happened.{Happened}
use Rattle.nm_history.specs.declared.events.Happened.TheVariants as event
use Rattle.nm_history.specs.declared.plain.Pair.{Pair}
use Rattle.nm_history.specs.AtEach.{AtEach}
use Rattle.nm_history.specs.Answers.{can_go_on, line_of_name, request_at}
use Rattle.nm_history.specs.Completion.{Request, is_complete, is_here, is_taken, pair_of_receive, shown}
use Rattle.nm_history.specs.Completion.Request.{Receiving, Sending}
use Rattle.nm_history.specs.Delivery.{AreDelivered}
use Rattle.nm_history.specs.Underway.{MayFollow}
use Rattle.nm_match.specs.Deeds.{is_known_message}
use Rattle.nm_history.specs.Happens.{happened, is_arrival, is_cancel, is_out, is_recall, is_undone, is_whole}
use Rattle.nm_history.specs.Happens.{is_withdraw}
use Rattle.nm_history.specs.Matching.{first_message, is_free_message, is_of_receive}
use Rattle.nm_history.specs.Matching.{matched_pairs}
use Rattle.nm_history.specs.Quiescence.{AskedOver, EagerOver, Ended, IsAnswered, Packets, RecallsAnswered, IsStopped}
use Rattle.nm_history.specs.Quiescence.{EachPair, EachRank, history_of}
use Rattle.nm_history.specs.RankRun.{EndAt, IsRankRun, NumberAt}
use Rattle.nm_history.specs.Run.{IsRunOf}
use Rattle.nm_history.specs.Sends.{arrivals, envelope, messages, sends}
use Rattle.nm_history.proofs.DeliveryLemmas.{AtEach-along}
use Rattle.nm_history.proofs.OnceLemmas.{eqb_self}
use Rattle.nm_history.proofs.SelectionLemmas.{find_contains}
use Rattle.nm_match.proofs.NumberLemmas.{is_known_message-arrived, messages_numbered}
use Rattle.nm_types.proofs.ListLemmas.{get_some}
use Rattle.nm_types.proofs.NumberLemmas.{same_number}
use Rattle.nm_types.proofs.OptionLemmas.{no_some, same_some}
use Rattle.nm_types.proofs.TruthLemmas.{and_left, and_right, both, or_left, or_right}
use Rattle.nm_report.specs.Told.{told_by}
use Rattle.nm_outcomes.specs.Logs.{IsLogOf, Step, history_in}
use Rattle.nm_outcomes.specs.Moves.{ArePlaces, may_show, request_now}
use Rattle.nm_outcomes.specs.Paths.{AreCommands, first_place, moved_by}
use Rattle.nm_outcomes.specs.Places.{IsPlaceOf, RankPoint}
use Rattle.nm_outcomes.specs.Rests.{AreAtRest, IsHeldUp, RunsComeToRest}
use Rattle.nm_outcomes.specs.Results.{is_past_recall, is_unasked, may_end_with, may_have_left}
use Rattle.nm_outcomes.proofs.Bodies.{came_known, pair_came, sent_before}
use Rattle.nm_outcomes.proofs.Early.{all_behind, is_below}
use Rattle.nm_outcomes.proofs.CallLemmas.{events_are_due}
use Rattle.nm_outcomes.proofs.LogLemmas.{all_delivered, at_of, own_run}
use Rattle.nm_outcomes.proofs.MoveLemmas.{found_is, free_is, request_is, show_is}
use Rattle.nm_outcomes.proofs.PathLemmas.{runs_are_paths, sent_within}
use Rattle.nm_outcomes.proofs.EndLemmas.{all_follow, answered, recalled}
use Rattle.nm_outcomes.proofs.HappenedLemmas.{late_past, not_both}
use Rattle.nm_outcomes.proofs.HappenedLemmas.{split_any}
use Rattle.nm_outcomes.proofs.SentLemmas.{sends_numbered, over, taken_of}
use Rattle.nm_outcomes.proofs.SentLemmas.{came_within, request_sent, sent_place}

module _ (shape : Sizes) (lines : List Line) (hist : ℕ → List Event)
    (own : (i : ℕ) → AtEach (λ b e. MayFollow shape (commands_of i lines) b e) (hist i))
    (delivered : (i j : ℕ) → i < shape.ranks → j < shape.ranks →
    AreDelivered i j (commands_of i lines) (commands_of j lines) (hist i) (hist j))
    (eager : (i j : ℕ) → i < shape.ranks → j < shape.ranks → EagerOver i j (hist i) (hist j))
    (asked : (i j : ℕ) → i < shape.ranks → j < shape.ranks → AskedOver i j (hist i) (hist j))
    (recalls : (i : ℕ) → i < shape.ranks → RecallsAnswered (hist i))
  where
    numbers : (i : ℕ) → AtEach (λ b e. NumberAt shape.ranks b e.what) (hist i)
    numbers i = AtEach-along (λ b e. MayFollow shape (commands_of i lines) b e)
        (λ b e. NumberAt shape.ranks b e.what) (hist i) (λ b e next. next.numbers) (own i)

    ends : (i : ℕ) → AtEach (λ b e. EndAt b e.what) (hist i)
    ends i = AtEach-along (λ b e. MayFollow shape (commands_of i lines) b e) (λ b e. EndAt b e.what) (hist i)
        (λ b e next. next.ends) (own i)

    -- the message of a receive is here
    here : (j number : ℕ) (p : Pair) → j < shape.ranks → pair_of_receive (hist j) number ≡ Some p →
        is_here (hist j) p ≡ true
    here j number p low found =
        let inside : Contains (matched_pairs (hist j)) p =
        find_contains (is_of_receive number) (matched_pairs (hist j)) p found in
        let came : Contains (messages (hist j)) p.arrival = pair_came (hist j) p inside in
        let known : is_known_message (hist j) p.arrival.env.from p.arrival.n ≡ true = came_known
        (hist j) p.arrival came in
        let from_rank : p.arrival.env.from < shape.ranks =
        came_within shape.ranks p.arrival.env.from p.arrival.n (hist j) (numbers j)
        (sym (is_known_message-arrived (hist j) p.arrival.env.from p.arrival.n) ∙ known) in
        let d = delivered p.arrival.env.from j from_rank low in
        let place : p.arrival.n < length (arrivals (hist j) p.arrival.env.from) =
        is_below p.arrival.n (length (arrivals (hist j) p.arrival.env.from))
        (sym (messages_numbered shape.ranks (hist j) (numbers j) p.arrival.env.from p.arrival.n) ∙ known) in
        let a = get_some (arrivals (hist j) p.arrival.env.from) p.arrival.n place in
        let s = sent_before p.arrival.env.from (sends (hist p.arrival.env.from) j)
        (arrivals (hist j) p.arrival.env.from) p.arrival.n a.0 d.messages a.1 in
        let taken : is_taken (hist j) p.arrival.env.from p.arrival.n ≡ true =
        taken_of (hist j) number p found
        (both (p.arrival.env.from == p.arrival.env.from) (p.arrival.n == p.arrival.n) (eqb_self p.arrival.env.from)
        (eqb_self p.arrival.n)) in
        and_right (happened (is_out j p.arrival.n) (hist p.arrival.env.from))
        (happened (is_whole p.arrival.env.from p.arrival.n) (hist j))
        (over shape.ranks p.arrival.env.from j (commands_of p.arrival.env.from lines) (commands_of j lines)
        (hist p.arrival.env.from) (hist j) (numbers p.arrival.env.from) d (eager p.arrival.env.from j from_rank low)
        (asked p.arrival.env.from j from_rank low) p.arrival.n s.0 s.1
        (or_right (is_unasked (sends (hist p.arrival.env.from) j) p.arrival.n)
        (is_taken (hist j) p.arrival.env.from p.arrival.n) taken))

    -- a receive that is not complete can't end
    receive_stands : (j number : ℕ) → j < shape.ranks → is_complete (hist j) (Receiving number) ≡ false →
        may_end_with hist j (Receiving number) ≡ None
    receive_stands j number low not_complete =
        by_cancel (happened (is_cancel number) (hist j)) (pair_of_receive (hist j) number) refl not_complete
      where
        by_cancel : (b : Bool) (o : Option Pair) → pair_of_receive (hist j) number ≡ o →
            (b || option_map_or (is_here (hist j)) o false) ≡ false →
            (if b then Some answer.Cancelled else option_map shown o) ≡ None
        by_cancel true o found none = absurd (false≢true (sym none))
        by_cancel false None found none = refl
        by_cancel false (Some p) found none = absurd (false≢true (sym none ∙ here j number p low found))

    -- the recall of a message was answered by its receiver
    recall_answered : (i j n : ℕ) → i < shape.ranks → happened (is_recall j n) (hist i) ≡ true →
        (happened (is_undone j n true) (hist i) ≡ true) ⊎ (happened (is_undone j n false) (hist i) ≡ true)
    recall_answered i j n low some =
        let spot = split_any (is_recall j n) (hist i) some in
        by_event spot.1.what spot.4
        (all_behind (λ (e : Event). IsAnswered (hist i) e.what) spot.0 spot.1 spot.2
        (subst (λ (k : List Event). AllByRecursion (λ (e : Event). IsAnswered (hist i) e.what) k) spot.3
        (recalls i low)))
      where
        either : (a b : Bool) → (a || b) ≡ true → (a ≡ true) ⊎ (b ≡ true)
        either true b is = inl refl
        either false b is = inr is

        by_event : (what : Happened) → is_recall j n what ≡ true → IsAnswered (hist i) what →
            (happened (is_undone j n true) (hist i) ≡ true) ⊎ (happened (is_undone j n false) (hist i) ≡ true)
        by_event (event.Recall to m) is answered =
            let one : to ≡ j = same_number to j (and_left (to == j) (m == n) is) in
            let two : m ≡ n = same_number m n (and_right (to == j) (m == n) is) in
            either (happened (is_undone j n true) (hist i)) (happened (is_undone j n false) (hist i))
            (subst (λ (k : ℕ). (happened (is_undone k n true) (hist i) || happened (is_undone k n false)
            (hist i)) ≡ true) one
            (subst (λ (k : ℕ). (happened (is_undone to k true) (hist i) || happened (is_undone to k false)
            (hist i)) ≡ true)
            two answered))
        by_event what is answered = absurd (false≢true is)

    -- so the message is not free
    recall_past : (i j n : ℕ) → i < shape.ranks → j < shape.ranks → happened (is_recall j n) (hist i) ≡ true →
        (happened (is_withdraw i n true) (hist j) ≡ true) ⊎ (happened (is_withdraw i n false) (hist j) ≡ true)
    recall_past i j n low below some = by_answer (recall_answered i j n low some)
      where
        by_answer : (happened (is_undone j n true) (hist i) ≡ true) ⊎ (happened (is_undone j n false)
            (hist i) ≡ true) →
            (happened (is_withdraw i n true) (hist j) ≡ true) ⊎ (happened (is_withdraw i n false) (hist j) ≡ true)
        by_answer (inl done) =
            inl (answered shape lines i j (hist i) (hist j) (own i) (own j) (delivered i j low below) n true done)
        by_answer (inr late) =
            inr (answered shape lines i j (hist i) (hist j) (own i) (own j) (delivered i j low below) n false late)

    recall_not_free : (i j n : ℕ) → i < shape.ranks → j < shape.ranks → happened (is_recall j n) (hist i) ≡ true →
        is_free_message (hist j) (matched_pairs (hist j)) i n ≡ false
    unfolding is_free_message
    recall_not_free i j n low below some = by_withdrawal (recall_past i j n low below some)
      where
        gone : (x y z : Bool) → z ≡ true → (not x && not y && not z) ≡ false
        gone true y z is = refl
        gone false true z is = refl
        gone false false z is = ap not is

        not_so : (b : Bool) → not b ≡ true → b ≡ false
        not_so false is = refl
        not_so true is = absurd (false≢true is)

        by_withdrawal : (happened (is_withdraw i n true) (hist j) ≡ true)
            ⊎ (happened (is_withdraw i n false) (hist j) ≡ true) →
            is_free_message (hist j) (matched_pairs (hist j)) i n ≡ false
        by_withdrawal (inl done) = gone _ _ (happened (is_withdraw i n true) (hist j)) done
        by_withdrawal (inr late) =
            not_so (is_free_message (hist j) (matched_pairs (hist j)) i n)
            (and_right (happened (is_arrival i n) (hist j)) (not (is_free_message (hist j)
            (matched_pairs (hist j)) i n))
            (late_past i n (hist j) (ends j) late))

    -- a send that is not complete can't end
    send_stands : (i j n line : ℕ) → i < shape.ranks → j < shape.ranks →
        request_at (hist i) line ≡ Some (Sending j n) → is_complete (hist i) (Sending j n) ≡ false →
        may_end_with hist i (Sending j n) ≡ None
    send_stands i j n line low below request not_complete =
        by_flags (happened (is_withdraw i n true) (hist j)) refl (may_have_left (hist i) (hist j) i j n) refl
        (happened (is_recall j n) (hist i)) refl not_complete
      where
        done_now : happened (is_withdraw i n true) (hist j) ≡ true → happened (is_undone j n true) (hist i) ≡ true
        done_now done =
            by_answer (recall_answered i j n low
            (recalled shape lines i j (hist i) (hist j) (own i) (own j) (delivered i j low below) n true done))
          where
            by_answer : (happened (is_undone j n true) (hist i) ≡ true)
                ⊎ (happened (is_undone j n false) (hist i) ≡ true) → happened (is_undone j n true) (hist i) ≡ true
            by_answer (inl is) = is
            by_answer (inr late) =
                absurd (not_both i n (hist j) (ends j) done
                (answered shape lines i j (hist i) (hist j) (own i) (own j) (delivered i j low below) n false late))

        left_now : may_have_left (hist i) (hist j) i j n ≡ true → happened (is_out j n) (hist i) ≡ true
        left_now may =
            let s = sent_place (hist i) j n (request_sent (hist i) line j n request) in
            let number : s.0 ≡ n =
            sym (sends_numbered shape.ranks (hist i) (numbers i) j s.0 s.1 s.2) ∙ same_number s.1.n n s.3 in
            and_left (happened (is_out j n) (hist i)) (happened (is_whole i n) (hist j))
            (over shape.ranks i j (commands_of i lines) (commands_of j lines) (hist i) (hist j) (numbers i)
            (delivered i j low below) (eager i j low below) (asked i j low below) n s.1
            (ap (λ (k : ℕ). slice_get (sends (hist i) j) k) (sym number) ∙ s.2) may)

        late_now : happened (is_withdraw i n true) (hist j) ≡ false → happened (is_recall j n) (hist i) ≡ true →
            happened (is_undone j n false) (hist i) ≡ true
        late_now none recall = by_answer (recall_answered i j n low recall)
          where
            by_answer : (happened (is_undone j n true) (hist i) ≡ true)
                ⊎ (happened (is_undone j n false) (hist i) ≡ true) → happened (is_undone j n false) (hist i) ≡ true
            by_answer (inl done) =
                absurd (false≢true (sym none
                ∙ answered shape lines i j (hist i) (hist j) (own i) (own j) (delivered i j low below) n true done))
            by_answer (inr late) = late

        late_complete : (u l o : Bool) → l ≡ true → o ≡ true → (u || (l && o)) ≡ true
        late_complete true l o first second = refl
        late_complete false l o first second = rw (first, second) refl

        by_flags : (d : Bool) → happened (is_withdraw i n true) (hist j) ≡ d →
            (m : Bool) → may_have_left (hist i) (hist j) i j n ≡ m →
            (r : Bool) → happened (is_recall j n) (hist i) ≡ r →
            (if r then happened (is_undone j n true) (hist i)
            || (happened (is_undone j n false) (hist i) && happened (is_out j n) (hist i))
            else happened (is_out j n) (hist i)) ≡ false →
            (if d then Some answer.Cancelled
            else if m && (not r || is_past_recall (hist j) i n) then Some answer.Sent else None) ≡ None
        by_flags true done m may true recall none =
            absurd (false≢true (sym none ∙ or_left (happened (is_undone j n true) (hist i)) _ (done_now done)))
        by_flags true done m may false recall none =
            absurd (false≢true (sym recall
            ∙ recalled shape lines i j (hist i) (hist j) (own i) (own j) (delivered i j low below) n true done))
        by_flags false done false may r recall none = refl
        by_flags false done true may false recall none = absurd (false≢true (sym none ∙ left_now may))
        by_flags false done true may true recall none =
            absurd (false≢true (sym none ∙ late_complete (happened (is_undone j n true) (hist i))
            (happened (is_undone j n false) (hist i)) (happened (is_out j n) (hist i)) (late_now done recall)
            (left_now may)))

-- what holds of each rank and of each two, by their histories
each_one : (R : ℕ → Ended → Type 0) (ranks : List Ended) (i : ℕ) → EachRank R ranks → i < length ranks →
    (rank : Ended) × (slice_get ranks i ≡ Some rank) × R i rank
each_one R ranks i each low =
    let a = get_some ranks i low in
    (a.0, a.1, subst (λ (o : Option Ended). IfSome o (R i)) a.1 (each i))

each_two : (R : ℕ → ℕ → List Event → List Event → Type 0) (ranks : List Ended) (i j : ℕ) → EachPair R ranks →
    i < length ranks → j < length ranks → R i j (history_of ranks i) (history_of ranks j)
each_two R ranks i j each low below =
    let a = each_one (λ i a. EachRank (λ j b. R i j a.events b.events) ranks) ranks i each low in
    let b = each_one (λ j b. R i j a.0.events b.events) ranks j a.2 below in
    rw (a.1, b.1) b.2

module _ (shape : Sizes) (lines : List Line) (ranks : List Ended) (packets : List Packets)
    (commands : AreCommands shape.ranks lines) (run : IsRunOf shape lines ranks packets) (log : List Step)
    (log_of : IsLogOf shape lines ranks log) (w : ℕ → RankPoint)
    (ends : (i : ℕ) → IsPlaceOf i (commands_of i lines) (history_of ranks i) (w i))
  where
    abbrev hist : ℕ → List Event
    hist i = history_in log i

    same : (i : ℕ) → history_of ranks i ≡ hist i
    same i = sym (log_of.histories i)

    within : (i : ℕ) → i < shape.ranks → i < length ranks
    within i low = let count = run.one_each in omega (arith, low, count)

    two : (R : ℕ → ℕ → List Event → List Event → Type 0) → EachPair R ranks → (i j : ℕ) → i < shape.ranks →
        j < shape.ranks → R i j (hist i) (hist j)
    two R each i j low below =
        subst (λ (h : List Event). R i j h (hist j)) (same i)
        (subst (λ (h : List Event). R i j (history_of ranks i) h) (same j)
        (each_two R ranks i j each (within i low) (within j below)))

    are : ArePlaces lines log w
    are i = subst (λ (h : List Event). IsPlaceOf i (commands_of i lines) h (w i)) (same i) (ends i)

    own : (i : ℕ) → AtEach (λ b e. MayFollow shape (commands_of i lines) b e) (hist i)
    own = all_follow shape lines log log_of.steps

    delivered : (i j : ℕ) → i < shape.ranks → j < shape.ranks →
        AreDelivered i j (commands_of i lines) (commands_of j lines) (hist i) (hist j)
    delivered i j low below = all_delivered shape lines log log_of.steps i j low below

    eager : (i j : ℕ) → i < shape.ranks → j < shape.ranks → EagerOver i j (hist i) (hist j)
    eager = two EagerOver run.quiescent.eager

    asked : (i j : ℕ) → i < shape.ranks → j < shape.ranks → AskedOver i j (hist i) (hist j)
    asked = two AskedOver run.quiescent.asked

    recalls : (i : ℕ) → i < shape.ranks → RecallsAnswered (hist i)
    recalls i low =
        let a = each_one (λ i rank. RecallsAnswered rank.events) ranks i run.quiescent.recalls (within i low) in
        subst (λ (h : List Event). RecallsAnswered h) (same i) (rw a.1 a.2)

    rank_own : (i : ℕ) → IsRankRun shape (commands_of i lines) (at_of shape lines ranks packets run i) (hist i)
    rank_own i =
        subst (λ (h : List Event). IsRankRun shape (commands_of i lines) (at_of shape lines ranks packets run i) h)
        (same i) (own_run shape lines ranks packets run i)

    -- a request that is not complete can't end
    stands : (i line : ℕ) (request : Request) → i < shape.ranks → request_at (hist i) line ≡ Some request →
        is_complete (hist i) request ≡ false → may_show w i request ≡ None
    stands i line (Receiving number) low here not_complete =
        show_is lines log w are i (Receiving number)
        ∙ receive_stands shape lines hist own delivered eager asked recalls i number low not_complete
    stands i line (Sending j n) low here not_complete =
        let below : j < shape.ranks =
        sent_within shape.ranks shape.eager (commands_of i lines) (commands.stand i) (commands.addressed i) (hist i)
        (events_are_due shape (commands_of i lines) (at_of shape lines ranks packets run i) (hist i) (commands.stand i)
        (rank_own i)) line j n here in
        show_is lines log w are i (Sending j n)
        ∙ send_stands shape lines hist own delivered eager asked recalls i j n line low below here not_complete

    held_up : (i : ℕ) (c : Command) → i < shape.ranks → can_go_on (commands_of i lines) (hist i) c ≡ false →
        IsHeldUp w i c
    held_up i (command.Wait q) low stuck =
        by_line (line_of_name (commands_of i lines) (hist i) q)
        (request_is i (commands_of i lines) (hist i) (w i) (are i) q) stuck
      where
        by_request : (line : ℕ) (o : Option Request) → request_at (hist i) line ≡ o →
            request_now (w i) q ≡ o → option_map_or (is_complete (hist i)) o true ≡ false →
            (request : Request) × (request_now (w i) q ≡ Some request) × (may_show w i request ≡ None)
        by_request line None here now stuck = absurd (false≢true (sym stuck))
        by_request line (Some request) here now stuck = (request, now, stands i line request low here stuck)

        by_line : (o : Option ℕ) → request_now (w i) q ≡ option_and_then (request_at (hist i)) o →
            option_map_or (is_complete (hist i)) (option_and_then (request_at (hist i)) o) true ≡ false →
            (request : Request) × (request_now (w i) q ≡ Some request) × (may_show w i request ≡ None)
        by_line None now stuck = absurd (false≢true (sym stuck))
        by_line (Some line) now stuck = by_request line (request_at (hist i) line) refl now stuck
    held_up i (command.Await from tag ctx) low stuck =
        found_is i (commands_of i lines) (hist i) (w i) (are i) from tag ctx
        ∙ by_found (first_message (hist i) (matched_pairs (hist i)) from tag ctx) stuck
      where
        by_found : (o : Option Arrival) → is_some o ≡ false → o ≡ None
        by_found None none = refl
        by_found (Some a) none = absurd (false≢true (sym none))
    held_up i (command.Send to q tag ctx sync body) low stuck = false≢true (sym stuck)
    held_up i (command.Recv q from tag ctx cap) low stuck = false≢true (sym stuck)
    held_up i (command.Test q) low stuck = false≢true (sym stuck)
    held_up i (command.Probe from tag ctx) low stuck = false≢true (sym stuck)
    held_up i (command.Cancel q) low stuck = false≢true (sym stuck)
    held_up i (command.Mprobe m from tag ctx) low stuck = false≢true (sym stuck)
    held_up i (command.Mrecv q m cap) low stuck = false≢true (sym stuck)

    waits : (i : ℕ) → i < shape.ranks → (c : Numbered) →
        slice_get (commands_of i lines) (w i).done ≡ Some c → IsHeldUp w i c.command
    waits i low c next =
        held_up i c.command low (by_stand (slice_get (commands_of i lines) a.0.at) refl a.2)
      where
        a : (rank : Ended) × (slice_get ranks i ≡ Some rank) × IsStopped (commands_of i lines) rank
        a = each_one (λ i rank. IsStopped (commands_of i lines) rank) ranks i run.quiescent.waits (within i low)

        at_is : (w i).done ≡ a.0.at
        at_is =
            let answers = (rank_own i).answers in
            (are i).done ∙ ap (λ (ls : List ℕ). length ls) answers.in_order
            ∙ length-map (take (at_of shape lines ranks packets run i) (commands_of i lines)) (λ c. c.line)
            ∙ length-take-le (at_of shape lines ranks packets run i) (commands_of i lines) answers.few
            ∙ ap (λ (o : Option Ended). option_map_or (λ rank. rank.at) o 0) a.1

        events_are : a.0.events ≡ hist i
        events_are = sym (ap (λ (o : Option Ended). option_map_or (λ rank. rank.events) o []) a.1) ∙ same i

        by_stand : (o : Option Numbered) → slice_get (commands_of i lines) a.0.at ≡ o →
            MatchOption o (a.0.waits ≡ None)
            (λ c. (a.0.waits ≡ Some c.line) × (can_go_on (commands_of i lines) a.0.events c.command ≡ false)) →
            can_go_on (commands_of i lines) (hist i) c.command ≡ false
        by_stand None is stand =
            absurd (no_some c (sym is ∙ ap (λ (k : ℕ). slice_get (commands_of i lines) k) (sym at_is) ∙ next))
        by_stand (Some d) is stand =
            let one : d ≡ c = same_some d c (sym is ∙ ap (λ (k : ℕ). slice_get (commands_of i lines) k)
            (sym at_is) ∙ next) in
            subst (λ (h : List Event). can_go_on (commands_of i lines) h c.command ≡ false) events_are
            (subst (λ (x : Numbered). can_go_on (commands_of i lines) a.0.events x.command ≡ false) one stand.1)

    -- how far a rank got, what it told, and where it waits
    done_is : (i : ℕ) (rank : Ended) → slice_get ranks i ≡ Some rank → (w i).done ≡ rank.at
    done_is i rank here =
        let answers = (rank_own i).answers in
        (are i).done ∙ ap (λ (ls : List ℕ). length ls) answers.in_order
        ∙ length-map (take (at_of shape lines ranks packets run i) (commands_of i lines)) (λ c. c.line)
        ∙ length-take-le (at_of shape lines ranks packets run i) (commands_of i lines) answers.few
        ∙ ap (λ (o : Option Ended). option_map_or (λ rank. rank.at) o 0) here

    pub told_is : (i : ℕ) (rank : Ended) → slice_get ranks i ≡ Some rank →
        (w i).told ≡ filter_map (λ e. told_by e.what) rank.events
    told_is i rank here =
        (ends i).told
        ∙ ap (λ (o : Option Ended). filter_map (λ e. told_by e.what) (option_map_or (λ rank. rank.events) o [])) here

    pub waits_is : (i : ℕ) (rank : Ended) → slice_get ranks i ≡ Some rank →
        rank.waits ≡ option_map (λ (c : Numbered). c.line) (slice_get (commands_of i lines) (w i).done)
    waits_is i rank here =
        by_stand (slice_get (commands_of i lines) rank.at)
        (subst (λ (o : Option Ended). IfSome o (λ rank. IsStopped (commands_of i lines) rank)) here
        (run.quiescent.waits i))
        ∙ ap (λ (k : ℕ). option_map (λ (c : Numbered). c.line) (slice_get (commands_of i lines) k))
        (sym (done_is i rank here))
      where
        by_stand : (o : Option Numbered) → MatchOption o (rank.waits ≡ None)
            (λ c. (rank.waits ≡ Some c.line) × (can_go_on (commands_of i lines) rank.events c.command ≡ false)) →
            rank.waits ≡ option_map (λ (c : Numbered). c.line) o
        by_stand None stand = stand
        by_stand (Some c) stand = stand.0

    pub at_rest : AreAtRest shape lines w
    at_rest = record {
      came = λ i j low below. (are j).came i
          ∙ two (λ i j hi hj. length (arrivals hj i) ≡ length (sends hi j)) run.quiescent.arrived i j low below
          ∙ sym (ap (λ (es : List Envelope). length es) ((are i).sent j)
          ∙ length-map (sends (hist i) j) (envelope i));
      recalls = λ i j n low below recalled.
          free_is j (commands_of j lines) (hist j) (w j) (are j) i n
          ∙ recall_not_free shape lines hist own delivered eager asked recalls i j n low below
          (sym ((are i).recalled j n) ∙ recalled);
      waits = waits;
    }

pub runs_come_to_rest : RunsComeToRest
runs_come_to_rest shape lines ranks packets commands run =
    let path = runs_are_paths shape lines ranks packets commands run in (
      path.0,
      path.1,
      at_rest shape lines ranks packets commands run path.0 path.1.log_of
          (moved_by lines (λ i. first_place) path.0) path.1.ends,
    )
