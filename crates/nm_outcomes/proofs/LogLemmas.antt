-- Each run has a log: stamp after stamp, and at each stamp rank after rank.
use Rattle.std.proofs.Common.{◌≡◌, ℕ, zero, suc, ◌+◌, ◌<◌, ◌≤◌, ◌==◌, ◌⊎◌, inl, inr, ◌&&◌, Bool, true, false, cond}
use Rattle.std.proofs.Common.{ltb}
use Rattle.std.proofs.Common.{Option, Some, None, List, [], ◌∷◌, ◌++◌, length, refl, sym, ◌∙◌, ap, subst, arith}
use Rattle.std.proofs.Common.{append-nil, append_assoc}
use Rattle.std.specs.Prelude.{IfSome, IsSomeAnd, IsTrue}
use Rattle.std.specs.Bool.{OnTrue}
use Rattle.std.specs.List.{AllByRecursion, cons_option, slice_get}
use Rattle.std.specs.Option.{option_map_or}
use Rattle.std.proofs.lemmas.Bool.{false≢true}
use Rattle.std.proofs.lemmas.Bool.Decides.{nat_tests}
use Rattle.std.proofs.lemmas.List.Elements.{filter-append, filter_map-append}
use Rattle.nm_types.specs.declared.scripts.Line.{Line}
use Rattle.nm_types.specs.Commands.{commands_of}
use Rattle.nm_types.specs.Sizes.{Sizes}
use Rattle.nm_history.specs.declared.events.Event.{Event}
use Rattle.nm_history.specs.declared.events.Happened.{Happened}
use Rattle.nm_history.specs.declared.events.Happened.TheVariants as event
use Rattle.nm_history.specs.AtEach.{AtEach}
use Rattle.nm_history.specs.Completion.{is_taken}
use Rattle.nm_history.specs.Delivery.{AreDelivered, ArriveInOrder, BodyAt, OutAfterPair, UndoneAfterWithdraw}
use Rattle.nm_history.specs.Delivery.{WithdrawAfterRecall, earlier_than, is_asked}
use Rattle.nm_history.specs.Growing.{ArrivesNext, MayReceive, MaySend}
use Rattle.nm_history.specs.Happens.{happened, is_recall, is_withdraw}
use Rattle.nm_history.specs.Quiescence.{Ended, Packets, history_of}
use Rattle.nm_history.specs.RankRun.{IsRankRun, NumberAt}
use Rattle.nm_history.specs.Run.{IsRunOf}
use Rattle.nm_history.specs.Sends.{Arrived, Sent, arrivals, envelope, sends}
use Rattle.nm_history.proofs.AppendLemmas.{arrivals-append, sends-append}
use Rattle.nm_history.proofs.AtEachLemmas.{AtEach-split}
use Rattle.nm_history.proofs.DeliveryLemmas.{delivery-none, receiver-push, sender-push}
use Rattle.nm_history.proofs.EachLemmas.{AtEach-prefix}
use Rattle.nm_history.proofs.EarlierLemmas.{earlier_is_front, one_more}
use Rattle.nm_history.proofs.OnceLemmas.{eqb_self}
use Rattle.nm_history.proofs.RankRunLemmas.{rank_run-none, rank_run-split}
use Rattle.nm_types.proofs.ListLemmas.{get_some, place_below}
use Rattle.nm_types.proofs.NumberLemmas.{same_number}
use Rattle.nm_outcomes.specs.Logs.{IsLog, IsLogOf, LogsDeliver, MayCome, MayComeAfter, RunsHaveLogs, Step}
use Rattle.nm_outcomes.specs.Logs.{event_of, history_in}
use Rattle.nm_outcomes.proofs.Bodies.{body_early}
use Rattle.nm_sure.proofs.Flown.{arrive_front, arrivals_lower}
use Rattle.nm_outcomes.proofs.Early.{above_all, above_is, all_behind, below_is, none_later}
use Rattle.nm_outcomes.proofs.Early.{earlier_twice, early_whole, is_below, none_early, not_below, place_early}
use Rattle.nm_outcomes.proofs.Early.{sends_late}

-- the rules of one event, where the other rank's history is another one that is as long up to its stamp
out_moved : (i j : ℕ) (old new before : List Event) (stamp : ℕ) (what : Happened) →
    earlier_than stamp old ≡ earlier_than stamp new → OutAfterPair i j old before stamp what →
    OutAfterPair i j new before stamp what
out_moved i j old new before stamp (event.Out to n) same right =
    subst (λ (h : List Event). OnTrue (to == j && is_asked (sends before j) n) (IsTrue (is_taken h i n))) same right
out_moved i j old new before stamp what same right = tt

answer_moved : (i j : ℕ) (old new : List Event) (stamp : ℕ) (what : Happened) →
    earlier_than stamp old ≡ earlier_than stamp new → UndoneAfterWithdraw i j old stamp what →
    UndoneAfterWithdraw i j new stamp what
answer_moved i j old new stamp (event.Undone to n done) same right =
    subst (λ (h : List Event). OnTrue (to == j) (IsTrue (happened (is_withdraw i n done) h))) same right
answer_moved i j old new stamp what same right = tt

recall_moved : (i j : ℕ) (old new : List Event) (stamp : ℕ) (what : Happened) →
    earlier_than stamp old ≡ earlier_than stamp new → WithdrawAfterRecall i j old stamp what →
    WithdrawAfterRecall i j new stamp what
recall_moved i j old new stamp (event.Withdraw from n done) same right =
    subst (λ (h : List Event). OnTrue (from == i) (IsTrue (happened (is_recall j n) h))) same right
recall_moved i j old new stamp what same right = tt

-- the send of an arrival stands at its place, and came before
arrival_place : (from : ℕ) (ss : List Sent) (xs : List Arrived) (a : Arrived) (ys : List Arrived) →
    ArriveInOrder from ss (xs ++ a ∷ ys) →
    (s : Sent) × (slice_get ss (length xs) ≡ Some s) × (a.arrival.env ≡ envelope from s) × (s.stamp < a.stamp)
arrival_place from [] [] a ys order = absurd order
arrival_place from (s ∷ ss) [] a ys order = (s, refl, order.0, order.1)
arrival_place from [] (x ∷ xs) a ys order = absurd order
arrival_place from (s ∷ ss) (x ∷ xs) a ys order = arrival_place from ss xs a ys order.2

-- an arrival is the next of what its sender sent so far
came_next : (i r t : ℕ) (whole front late before : List Event) (stamp : ℕ) (what : Happened) (rest : List Event) →
    stamp ≤ t → whole ≡ front ++ late → AllByRecursion (λ (e : Event). t ≤ e.stamp) late →
    ArriveInOrder i (sends whole r) (arrivals (before ++ record { stamp = stamp; what = what } ∷ rest) i) →
    ArrivesNext i r front before stamp what
came_next i r t whole front late before stamp (event.Arrive a) rest low split later order =
    by_source (a.env.from == i)
    (subst (λ (as' : List Arrived). ArriveInOrder i (sends whole r) as')
    (arrivals-append before (record { stamp = stamp; what = event.Arrive a } ∷ rest) i) order)
  where
    by_source : (b : Bool) →
        ArriveInOrder i (sends whole r)
        (arrivals before i ++ cond b (record { stamp = stamp; arrival = a } ∷ arrivals rest i) (arrivals rest i)) →
        OnTrue b (IsSomeAnd (slice_get (sends front r) (length (arrivals before i)))
        (λ s. (a.env ≡ envelope i s) × (s.stamp < stamp)))
    by_source true order =
        let place = arrival_place i (sends whole r) (arrivals before i) (record { stamp = stamp; arrival = a })
        (arrivals rest i) order in
        let early : place.0.stamp < t = (let p = place.3 in omega (arith, p, low)) in
        let here : slice_get (sends front r) (length (arrivals before i)) ≡ Some place.0 =
        place_early t (sends front r) (sends late r) (length (arrivals before i)) place.0
        (sends_late t late r later) early
        (sym (ap (λ (ss : List Sent). slice_get ss (length (arrivals before i)))
        (ap (λ (h : List Event). sends h r) split ∙ sends-append front late r)) ∙ place.1) in
        rw here (place.2, place.3)
    by_source false order = tt
came_next i r t whole front late before stamp what rest low split later order = tt

-- one step more
pub log-push : (shape : Sizes) (lines : List Line) (before steps : List Step) (step : Step) →
    MayComeAfter shape lines before steps → MayCome shape lines (history_in (before ++ steps)) step.rank step.event →
    MayComeAfter shape lines before (steps ++ step ∷ [])
log-push shape lines before [] step each next = (
  subst (λ (log : List Step). MayCome shape lines (history_in log) step.rank step.event) (append-nil before) next,
  tt,
)
log-push shape lines before (s ∷ steps) step each next = (
  each.0,
  log-push shape lines (before ++ s ∷ []) steps step each.1
      (subst (λ (log : List Step). MayCome shape lines (history_in log) step.rank step.event)
      (sym (append_assoc before (s ∷ []) steps)) next),
)

history-push : (log : List Step) (step : Step) (i : ℕ) →
    history_in (log ++ step ∷ []) i ≡ history_in log i ++ cons_option (event_of i step) []
history-push log step i = filter_map-append (λ (step : Step). event_of i step) log (step ∷ [])

-- what holds of no step, and lasts with each that may come, holds of each log
module _ (shape : Sizes) (lines : List Line) (P : List Step → Type 0)
    (grow : (log : List Step) (step : Step) → IsLog shape lines log → P log →
    MayCome shape lines (history_in log) step.rank step.event → P (log ++ step ∷ []))
  where
    log_after : (before steps : List Step) → IsLog shape lines before → P before →
        MayComeAfter shape lines before steps → P (before ++ steps)
    log_after before [] is holds each = subst P (sym (append-nil before)) holds
    log_after before (s ∷ steps) is holds each =
        subst P (append_assoc before (s ∷ []) steps)
        (log_after (before ++ s ∷ []) steps (log-push shape lines [] before s is each.0)
        (grow before s is holds each.0)
        each.1)

    pub log_induction : P [] → (log : List Step) → IsLog shape lines log → P log
    log_induction none log is = log_after [] log tt none is

-- the histories after one step more
pub grown_here : (log : List Step) (step : Step) →
    history_in (log ++ step ∷ []) step.rank ≡ history_in log step.rank ++ step.event ∷ []
grown_here log step = history-push log step step.rank ∙ (rw (eqb_self step.rank) refl)

pub grown_other : (log : List Step) (step : Step) (i : ℕ) → (step.rank == i) ≡ false →
    history_in (log ++ step ∷ []) i ≡ history_in log i
grown_other log step i other = history-push log step i ∙ (rw other (append-nil (history_in log i)))

-- an event is not earlier than itself
not_itself : (h : List Event) (e : Event) → earlier_than e.stamp h ≡ earlier_than e.stamp (h ++ e ∷ [])
not_itself h e =
    let same : e.stamp ≤ e.stamp = omega arith in
    sym (filter-append (λ (x : Event). ltb x.stamp e.stamp) h (e ∷ [])
    ∙ (rw (above_is e.stamp e.stamp same) (append-nil (earlier_than e.stamp h))))

module _ (shape : Sizes) (lines : List Line) where
  abbrev Delivered : ℕ → ℕ → List Event → List Event → Type 0
  Delivered i j hi hj = AreDelivered i j (commands_of i lines) (commands_of j lines) hi hj

  abbrev AllDelivered : List Step → Type 0
  AllDelivered log =
      (i j : ℕ) → i < shape.ranks → j < shape.ranks → Delivered i j (history_in log i) (history_in log j)

  -- a rank that sends itself a message has one event more at both ends
  to_itself : (i : ℕ) (h : List Event) (e : Event) → Delivered i i h h → MaySend i i h h e →
      MayReceive i i (commands_of i lines) (commands_of i lines) h h e → Delivered i i (h ++ e ∷ []) (h ++ e ∷ [])
  to_itself i h e right sends receives =
      sender-push i i (commands_of i lines) (commands_of i lines) h (h ++ e ∷ []) e
      (receiver-push i i (commands_of i lines) (commands_of i lines) h h e right receives)
      (record {
        out = out_moved i i h (h ++ e ∷ []) h e.stamp e.what (not_itself h e) sends.out;
        answered = answer_moved i i h (h ++ e ∷ []) e.stamp e.what (not_itself h e) sends.answered;
      })

  grown_delivered : (log : List Step) (step : Step) → IsLog shape lines log → AllDelivered log →
      MayCome shape lines (history_in log) step.rank step.event → AllDelivered (log ++ step ∷ [])
  grown_delivered log step is each next i j low below = by_ranks (step.rank == i) refl (step.rank == j) refl
    where
      by_ranks : (b : Bool) → (step.rank == i) ≡ b → (c : Bool) → (step.rank == j) ≡ c →
          Delivered i j (history_in (log ++ step ∷ []) i) (history_in (log ++ step ∷ []) j)
      by_ranks true first true second =
          let one = same_number step.rank i first in
          let two = same_number step.rank j second in
          subst (λ (k : ℕ). Delivered k j (history_in (log ++ step ∷ []) k) (history_in (log ++ step ∷ []) j)) one
          (subst (λ (k : ℕ). Delivered step.rank k (history_in (log ++ step ∷ []) step.rank)
          (history_in (log ++ step ∷ []) k)) two
          (subst (λ (h : List Event). Delivered step.rank step.rank h h) (sym (grown_here log step))
          (to_itself step.rank (history_in log step.rank) step.event
          (each step.rank step.rank next.within next.within) (next.sends step.rank next.within)
          (next.receives step.rank next.within))))
      by_ranks true first false second =
          let one = same_number step.rank i first in
          subst (λ (k : ℕ). Delivered k j (history_in (log ++ step ∷ []) k) (history_in (log ++ step ∷ []) j)) one
          (subst (λ (h : List Event). Delivered step.rank j (history_in (log ++ step ∷ []) step.rank) h)
          (sym (grown_other log step j second))
          (subst (λ (h : List Event). Delivered step.rank j h (history_in log j)) (sym (grown_here log step))
          (sender-push step.rank j (commands_of step.rank lines) (commands_of j lines) (history_in log step.rank)
          (history_in log j) step.event (each step.rank j next.within below) (next.sends j below))))
      by_ranks false first true second =
          let two = same_number step.rank j second in
          subst (λ (k : ℕ). Delivered i k (history_in (log ++ step ∷ []) i) (history_in (log ++ step ∷ []) k)) two
          (subst (λ (h : List Event). Delivered i step.rank h (history_in (log ++ step ∷ []) step.rank))
          (sym (grown_other log step i first))
          (subst (λ (h : List Event). Delivered i step.rank (history_in log i) h) (sym (grown_here log step))
          (receiver-push i step.rank (commands_of i lines) (commands_of step.rank lines) (history_in log i)
          (history_in log step.rank) step.event (each i step.rank low next.within) (next.receives i low))))
      by_ranks false first false second =
          subst (λ (h : List Event). Delivered i j h (history_in (log ++ step ∷ []) j))
          (sym (grown_other log step i first))
          (subst (λ (h : List Event). Delivered i j (history_in log i) h) (sym (grown_other log step j second))
          (each i j low below))

  pub all_delivered : (log : List Step) → IsLog shape lines log → AllDelivered log
  all_delivered =
      log_induction shape lines AllDelivered grown_delivered
      (λ i j low below. delivery-none i j (commands_of i lines) (commands_of j lines))

pub logs_deliver : LogsDeliver
logs_deliver shape lines log is i j low below = all_delivered shape lines log is i j low below

-- the histories of a run, by their numbers
module _ (shape : Sizes) (lines : List Line) (at : ℕ → ℕ) (hist : ℕ → List Event)
    (own : (i : ℕ) → IsRankRun shape (commands_of i lines) (at i) (hist i))
    (carried : (i j : ℕ) → i < shape.ranks → j < shape.ranks →
    AreDelivered i j (commands_of i lines) (commands_of j lines) (hist i) (hist j))
    (beyond : (i : ℕ) → shape.ranks ≤ i → hist i ≡ [])
  where
    abbrev early : ℕ → ℕ → List Event
    early t i = earlier_than t (hist i)

    -- what rank i did before a stamp, and where it is one of the first ranks, at that stamp too
    abbrev cut : ℕ → ℕ → ℕ → List Event
    cut t r i = cond (ltb i r) (early (t + 1) i) (early t i)

    -- a history that has all that was earlier than a stamp, and perhaps what has that stamp
    abbrev IsNear : ℕ → ℕ → List Event → Type 0
    IsNear t i h = (h ≡ early t i) ⊎ (h ≡ early (t + 1) i)

    cut_near : (t r i : ℕ) → IsNear t i (cut t r i)
    cut_near t r i = by_test (ltb i r)
      where
        by_test : (b : Bool) → IsNear t i (cond b (early (t + 1) i) (early t i))
        by_test true = inr refl
        by_test false = inl refl

    near_early : (s t i : ℕ) (h : List Event) → s ≤ t → IsNear t i h → early s i ≡ earlier_than s h
    near_early s t i h low (inl is) = sym (ap (λ (k : List Event). earlier_than s k) is
        ∙ earlier_twice s t (hist i) low)
    near_early s t i h low (inr is) =
        let more : s ≤ t + 1 = omega (arith, low) in
        sym (ap (λ (k : List Event). earlier_than s k) is ∙ earlier_twice s (t + 1) (hist i) more)

    -- what is left of the history is no earlier
    near_front : (t i : ℕ) (h : List Event) → IsNear t i h →
        (late : List Event) × (hist i ≡ h ++ late) × AllByRecursion (λ (e : Event). t ≤ e.stamp) late
    near_front t i h (inl is) =
        let front = earlier_is_front t (hist i) (own i).stamps in
        (front.0, subst (λ (k : List Event). hist i ≡ k ++ front.0) (sym is) front.1, front.2)
    near_front t i h (inr is) =
        let front = earlier_is_front (t + 1) (hist i) (own i).stamps in (
          front.0,
          subst (λ (k : List Event). hist i ≡ k ++ front.0) (sym is) front.1,
          lower front.0 front.2,
        )
      where
        lower : (es : List Event) → AllByRecursion (λ (e : Event). t + 1 ≤ e.stamp) es →
            AllByRecursion (λ (e : Event). t ≤ e.stamp) es
        lower [] all = tt
        lower (e ∷ es) all = ((let x : t + 1 ≤ e.stamp = all.0 in omega (arith, x)), lower es all.1)

    -- the next event of a rank may come
    may_come : (t r : ℕ) (so_far : ℕ → List Event) (e : Event) (rest : List Event) → r < shape.ranks → e.stamp ≤ t →
        so_far r ≡ early t r → hist r ≡ so_far r ++ e ∷ rest → ((i : ℕ) → IsNear t i (so_far i)) →
        MayCome shape lines so_far r e
    may_come t r so_far e rest inside low now split near = record {
      within = inside;
      own = rank_run-split shape (commands_of r lines) (at r) (so_far r) e rest
          (subst (λ (h : List Event). IsRankRun shape (commands_of r lines) (at r) h) split (own r));
      sends = λ j within. record {
        out = out_moved r j (hist j) (so_far j) (so_far r) e.stamp e.what
            (near_early e.stamp t j (so_far j) low (near j))
            (AtEach-split (λ before e. OutAfterPair r j (hist j) before e.stamp e.what) (so_far r) e rest
            (subst (λ (h : List Event). AtEach (λ before e. OutAfterPair r j (hist j) before e.stamp e.what) h) split
            (carried r j inside within).outs));
        answered = answer_moved r j (hist j) (so_far j) e.stamp e.what
            (near_early e.stamp t j (so_far j) low (near j))
            (all_behind (λ (e : Event). UndoneAfterWithdraw r j (hist j) e.stamp e.what) (so_far r) e rest
            (subst (λ (h : List Event). AllByRecursion (λ (e : Event). UndoneAfterWithdraw r j
            (hist j) e.stamp e.what) h)
            split (carried r j inside within).withdrawals.answered));
      };
      receives = λ i within.
          let front = near_front t i (so_far i) (near i) in record {
            message = came_next i r t (hist i) (so_far i) front.0 (so_far r) e.stamp e.what rest low front.1 front.2
                (subst (λ (h : List Event). ArriveInOrder i (sends (hist i) r) (arrivals h i)) split
                (carried i r within inside).messages);
            body = body_early i r t (commands_of i lines) (commands_of r lines) shape.ranks (hist i) (so_far i) front.0
                (so_far r) e.what front.1 front.2
                (arrive_front i (sends (hist i) r) (arrivals (so_far r) i) (arrivals (e ∷ rest) i)
                (subst (λ (as' : List Arrived). ArriveInOrder i (sends (hist i) r) as')
                (ap (λ (h : List Event). arrivals h i) split ∙ arrivals-append (so_far r) (e ∷ rest) i)
                (carried i r within inside).messages))
                (subst (λ (h : List Event). AllByRecursion (λ (a : Arrived). a.stamp < t) (arrivals h i)) (sym now)
                (arrivals_lower t (hist r) i))
                (AtEach-prefix (λ before e. NumberAt shape.ranks before e.what) (so_far r) (e ∷ rest)
                (subst (λ (h : List Event). AtEach (λ before e. NumberAt shape.ranks before e.what) h) split
                (own r).numbers))
                (AtEach-split (λ before e. BodyAt i (commands_of i lines) (sends (hist i) r)
                (commands_of r lines) before e.what)
                (so_far r) e rest
                (subst (λ (h : List Event). AtEach (λ before e. BodyAt i (commands_of i lines) (sends (hist i) r)
                (commands_of r lines) before e.what) h) split (carried i r within inside).bodies));
            asked = recall_moved i r (hist i) (so_far i) e.stamp e.what
                (near_early e.stamp t i (so_far i) low (near i))
                (all_behind (λ (e : Event). WithdrawAfterRecall i r (hist i) e.stamp e.what) (so_far r) e rest
                (subst (λ (h : List Event). AllByRecursion (λ (e : Event). WithdrawAfterRecall i r
                (hist i) e.stamp e.what) h)
                split (carried i r within inside).withdrawals.asked));
          };
    }

    -- a log up to a stamp, and of the first ranks at that stamp too
    abbrev IsReached : ℕ → ℕ → Type 0
    IsReached t r = (log : List Step) × IsLog shape lines log × ((i : ℕ) → history_in log i ≡ cut t r i)

    -- one rank more, of which something happens at this stamp or nothing does
    cut_other : (t r i : ℕ) → (i ≡ r → ⊥) → cut t (suc r) i ≡ cut t r i
    cut_other t r i other = by_tests (ltb i (suc r)) refl (ltb i r) refl
      where
        by_tests : (b : Bool) → ltb i (suc r) ≡ b → (c : Bool) → ltb i r ≡ c →
            cond b (early (t + 1) i) (early t i) ≡ cond c (early (t + 1) i) (early t i)
        by_tests true is true so = refl
        by_tests true is false so =
            absurd (let x = is_below i (suc r) is in let y = not_below i r so in other (omega (arith, x, y)))
        by_tests false is true so =
            absurd (let x = not_below i (suc r) is in let y = is_below i r so in omega (arith, x, y))
        by_tests false is false so = refl

    cut_old : (t r : ℕ) → cut t r r ≡ early t r
    cut_old t r = let none : r ≤ r = omega arith in rw (above_is r r none) refl

    cut_new : (t r : ℕ) → cut t (suc r) r ≡ early (t + 1) r
    cut_new t r = let next : r < suc r = omega arith in rw (below_is r (suc r) next) refl

    next_rank : (t r : ℕ) → r < shape.ranks → IsReached t r → IsReached t (suc r)
    next_rank t r inside reached = by_more (one_more t (hist r) (own r).stamps)
      where
        apart : (i : ℕ) → (i == r) ≡ false → i ≡ r → ⊥
        apart i is same = false≢true (sym is ∙ ap (λ (n : ℕ). n == r) same ∙ eqb_self r)

        stays : early (t + 1) r ≡ early t r → (i : ℕ) → cut t (suc r) i ≡ cut t r i
        stays same i = by_rank (i == r) refl
          where
            by_rank : (b : Bool) → (i == r) ≡ b → cut t (suc r) i ≡ cut t r i
            by_rank true is =
                subst (λ (k : ℕ). cut t (suc r) k ≡ cut t r k) (sym (same_number i r is))
                (cut_new t r ∙ same ∙ sym (cut_old t r))
            by_rank false is = cut_other t r i (apart i is)

        grows : (e : Event) → early (t + 1) r ≡ early t r ++ e ∷ [] → (i : ℕ) →
            history_in (reached.0 ++ record { rank = r; event = e } ∷ []) i ≡ cut t (suc r) i
        grows e more i = history-push reached.0 (record { rank = r; event = e }) i ∙ by_rank (r == i) refl
          where
            by_rank : (b : Bool) → (r == i) ≡ b →
                history_in reached.0 i ++ cons_option (cond b (Some e) None) [] ≡ cut t (suc r) i
            by_rank true is =
                subst (λ (k : ℕ). history_in reached.0 k ++ e ∷ [] ≡ cut t (suc r) k) (same_number r i is)
                (ap (λ (h : List Event). h ++ e ∷ []) (reached.2 r ∙ cut_old t r) ∙ sym more ∙ sym (cut_new t r))
            by_rank false is =
                append-nil (history_in reached.0 i) ∙ reached.2 i
                ∙ sym (cut_other t r i (λ same. false≢true (sym is ∙ ap (λ (n : ℕ). n == i) (sym same) ∙ eqb_self i)))

        by_more : (early (t + 1) r ≡ early t r)
            ⊎ ((e : Event) × (rest : List Event) × (hist r ≡ early t r ++ e ∷ rest)
            × (early (t + 1) r ≡ early t r ++ e ∷ [])) → IsReached t (suc r)
        by_more (inl same) = (reached.0, reached.1, λ i. reached.2 i ∙ sym (stays same i))
        by_more (inr more) =
            let low : more.0.stamp ≤ t =
            (let x = all_behind (λ (e : Event). e.stamp < t + 1) (early t r) more.0 []
            (subst (λ (h : List Event). AllByRecursion (λ (e : Event). e.stamp < t + 1) h) more.3
            (none_later t (hist r))) in omega (arith, x)) in
            let so_far : hist r ≡ history_in reached.0 r ++ more.0 ∷ more.1 =
            subst (λ (h : List Event). hist r ≡ h ++ more.0 ∷ more.1) (sym (reached.2 r ∙ cut_old t r)) more.2 in (
              reached.0 ++ record { rank = r; event = more.0 } ∷ [],
              log-push shape lines [] reached.0 (record { rank = r; event = more.0 }) reached.1
                  (may_come t r (history_in reached.0) more.0 more.1 inside low (reached.2 r ∙ cut_old t r) so_far
                  (λ i. subst (λ (h : List Event). IsNear t i h) (sym (reached.2 i)) (cut_near t r i))),
              grows more.0 more.3,
            )

    -- all ranks at a stamp, and all stamps
    all_ranks : (t r : ℕ) → r ≤ shape.ranks → IsReached t 0 → IsReached t r
    all_ranks t zero low reached = reached
    all_ranks t (suc r) low reached = next_rank t r (omega (arith, low)) (all_ranks t r (omega (arith, low)) reached)

    cut_on : (t i : ℕ) → cut t shape.ranks i ≡ cut (t + 1) 0 i
    cut_on t i = by_test (ltb i shape.ranks) refl ∙ sym (rw (above_is i 0 (omega arith)) refl)
      where
        by_test : (b : Bool) → ltb i shape.ranks ≡ b →
            cond b (early (t + 1) i) (early t i) ≡ early (t + 1) i
        by_test true is = refl
        by_test false is = rw (beyond i (not_below i shape.ranks is)) refl

    next_stamp : (t : ℕ) → IsReached t 0 → IsReached (t + 1) 0
    next_stamp t reached =
        let all = all_ranks t shape.ranks (omega arith) reached in (all.0, all.1, λ i. all.2 i ∙ cut_on t i)

    all_stamps : (t : ℕ) → IsReached t 0
    all_stamps zero = ([], tt, λ i. sym (rw (above_is i 0 (omega arith)) (none_early (hist i))))
    all_stamps (suc t) =
        let same : t + 1 ≡ suc t = omega arith in
        subst (λ (s : ℕ). IsReached s 0) same (next_stamp t (all_stamps t))

    -- a stamp that all events of the first ranks are earlier than
    abbrev top : ℕ → ℕ
    top zero = 0
    top (suc r) = above_all (hist r) + top r

    below_top : (r i : ℕ) → i < r → above_all (hist i) ≤ top r
    below_top zero i low = absurd (omega (arith, low))
    below_top (suc r) i low = by_rank (i == r) refl (λ low. below_top r i low)
      where
        by_rank : (b : Bool) → (i == r) ≡ b → (i < r → above_all (hist i) ≤ top r) →
            above_all (hist i) ≤ above_all (hist r) + top r
        by_rank true is more =
            subst (λ (k : ℕ). above_all (hist k) ≤ above_all (hist r) + top r) (sym (same_number i r is))
            (omega arith)
        by_rank false is more =
            let before : i < r = grind (arith, nat_tests) in
            let rest = more before in omega (arith, rest)

    whole : (i : ℕ) → early (top shape.ranks) i ≡ hist i
    whole i = by_test (ltb i shape.ranks) refl
      where
        by_test : (b : Bool) → ltb i shape.ranks ≡ b → early (top shape.ranks) i ≡ hist i
        by_test true is =
            early_whole (top shape.ranks) (hist i) (below_top shape.ranks i (is_below i shape.ranks is))
        by_test false is = rw (beyond i (not_below i shape.ranks is)) refl

    pub whole_log : (log : List Step) × IsLog shape lines log × ((i : ℕ) → history_in log i ≡ hist i)
    whole_log =
        let all = all_stamps (top shape.ranks) in
        (all.0, all.1, λ i. all.2 i ∙ rw (above_is i 0 (omega arith)) (whole i))

-- the law, over the record of a run
module _ (shape : Sizes) (lines : List Line) (ranks : List Ended) (packets : List Packets)
    (run : IsRunOf shape lines ranks packets)
  where
    abbrev pub at_of : ℕ → ℕ
    at_of i = option_map_or (λ rank. rank.at) (slice_get ranks i) 0

    pub own_run : (i : ℕ) → IsRankRun shape (commands_of i lines) (at_of i) (history_of ranks i)
    own_run i = by_rank (slice_get ranks i) (run.rank_runs i)
      where
        by_rank : (o : Option Ended) →
            IfSome o (λ rank. IsRankRun shape (commands_of i lines) rank.at rank.events) →
            IsRankRun shape (commands_of i lines) (option_map_or (λ rank. rank.at) o 0)
            (option_map_or (λ rank. rank.events) o [])
        by_rank None holds = rank_run-none shape (commands_of i lines)
        by_rank (Some rank) holds = holds

    delivered : (i j : ℕ) → i < shape.ranks → j < shape.ranks →
        AreDelivered i j (commands_of i lines) (commands_of j lines) (history_of ranks i) (history_of ranks j)
    delivered i j low below =
        let count = run.one_each in
        let a = get_some ranks i (omega (arith, low, count)) in
        let b = get_some ranks j (omega (arith, below, count)) in
        let first : IfSome (slice_get ranks j) (λ (b : Ended). AreDelivered i j (commands_of i lines)
        (commands_of j lines) a.0.events b.events) =
        subst (λ (o : Option Ended). IfSome o (λ (a : Ended). IfSome (slice_get ranks j)
        (λ (b : Ended). AreDelivered i j (commands_of i lines) (commands_of j lines) a.events b.events))) a.1
        (if_rank i (run.delivered i) j) in
        let both : AreDelivered i j (commands_of i lines) (commands_of j lines) a.0.events b.0.events =
        subst (λ (o : Option Ended). IfSome o (λ (b : Ended). AreDelivered i j (commands_of i lines)
        (commands_of j lines) a.0.events b.events)) b.1 first in
        rw (a.1, b.1) both
      where
        if_rank : (i : ℕ) → IfSome (slice_get ranks i) (λ (a : Ended). (j : ℕ) → IfSome (slice_get ranks j)
            (λ (b : Ended). AreDelivered i j (commands_of i lines) (commands_of j lines) a.events b.events)) →
            (j : ℕ) →
            IfSome (slice_get ranks i) (λ (a : Ended). IfSome (slice_get ranks j)
            (λ (b : Ended). AreDelivered i j (commands_of i lines) (commands_of j lines) a.events b.events))
        if_rank i each j = by_rank (slice_get ranks i) each
          where
            by_rank : (o : Option Ended) → IfSome o (λ (a : Ended). (j : ℕ) → IfSome (slice_get ranks j)
                (λ (b : Ended). AreDelivered i j (commands_of i lines) (commands_of j lines) a.events b.events)) →
                IfSome o (λ (a : Ended). IfSome (slice_get ranks j)
                (λ (b : Ended). AreDelivered i j (commands_of i lines) (commands_of j lines) a.events b.events))
            by_rank None each = tt
            by_rank (Some a) each = each j

    no_rank : (i : ℕ) → shape.ranks ≤ i → history_of ranks i ≡ []
    no_rank i high = by_rank (slice_get ranks i) refl
      where
        by_rank : (o : Option Ended) → slice_get ranks i ≡ o → option_map_or (λ rank. rank.events) o [] ≡ []
        by_rank None is = refl
        by_rank (Some rank) is =
            absurd (let below = place_below ranks i rank is in let count = run.one_each in
            omega (arith, below, count, high))

    pub run_log : (log : List Step) × IsLogOf shape lines ranks log
    run_log =
        let log = whole_log shape lines at_of (history_of ranks) own_run delivered no_rank in
        (log.0, record { steps = log.1; histories = log.2 })

pub runs_have_logs : RunsHaveLogs
runs_have_logs shape lines ranks packets run = run_log shape lines ranks packets run
