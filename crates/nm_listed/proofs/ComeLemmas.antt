-- The message that is next, and a withdrawal, may come next in the log.
use Rattle.std.proofs.Common.{◌≡◌, ℕ, zero, suc, ◌<◌, ◌≤◌, ◌==◌, ◌&&◌, not, Bool, true, false, cond}
use Rattle.std.proofs.Common.{Option, Some, None}
use Rattle.std.proofs.Common.{List, [], ◌∷◌, length, refl, sym, ◌∙◌, ap, subst, arith, ltb}
use Rattle.std.specs.Prelude.{IsSomeAnd, IsTrue, count_by, option_and_then}
use Rattle.std.specs.List.{AllByRecursion, cons_option, filter, filter_map, list_any, slice_get, slice_set}
use Rattle.std.specs.Option.{option_map_or}
use Rattle.std.proofs.lemmas.Bool.{false≢true}
use Rattle.std.proofs.lemmas.Bool.Decides.{nat_tests}
use Rattle.std.proofs.lemmas.List.Sums.{length-filter}
use Rattle.std.proofs.lemmas.Option.{slice_get_past}
use Rattle.nm_types.specs.declared.messages.Arrival.{Arrival}
use Rattle.nm_types.specs.declared.scripts.Line.{Line}
use Rattle.nm_types.specs.Commands.{commands_of}
use Rattle.nm_types.specs.Limits.{IsScript}
use Rattle.nm_types.specs.Sizes.{Sizes}
use Rattle.nm_types.proofs.ListLemmas.{get_some}
use Rattle.nm_types.proofs.NumberLemmas.{same_number}
use Rattle.nm_types.proofs.OptionLemmas.{no_some, same_some}
use Rattle.nm_types.proofs.TruthLemmas.{and_left, and_right, not_true}
use Rattle.nm_history.specs.declared.events.Event.{Event}
use Rattle.nm_history.specs.declared.events.Happened.{Happened}
use Rattle.nm_history.specs.declared.events.Happened.TheVariants as event
use Rattle.nm_history.specs.AtEach.{AtEach}
use Rattle.nm_history.specs.Delivery.{earlier_than}
use Rattle.nm_history.specs.Happens.{happened, is_arrival, is_claim, is_recall, is_withdraw}
use Rattle.nm_history.specs.Matching.{is_free_message, matched_pairs}
use Rattle.nm_history.specs.RankRun.{EndAt}
use Rattle.nm_history.specs.Sends.{Sent, arrivals, envelope, sends, sent_of}
use Rattle.nm_history.specs.Underway.{MayFollow}
use Rattle.nm_history.specs.Completion.{is_taken}
use Rattle.nm_history.proofs.Basic.{on_test}
use Rattle.nm_history.proofs.DeliveryLemmas.{AtEach-along}
use Rattle.nm_match.specs.Deeds.{is_message}
use Rattle.nm_outcomes.specs.Logs.{Step, history_in}
use Rattle.nm_outcomes.specs.Paths.{AreCommands}
use Rattle.nm_outcomes.specs.RankStates.{IsSpotOf, Spot, arrived_at, free_lem, withdrawn_at}
use Rattle.nm_outcomes.specs.declared.spots.deeds.Deed.{Deed}
use Rattle.nm_match.specs.declared.names.Message as message
use Rattle.nm_outcomes.specs.Looks.{is_recall_by, is_send_by}
use Rattle.nm_outcomes.proofs.EndLemmas.{all_follow}
use Rattle.nm_outcomes.proofs.HappenedLemmas.{late_past}
use Rattle.nm_outcomes.proofs.SaidLemmas.{said}
use Rattle.nm_outcomes.proofs.SentLemmas.{came_within}
use Rattle.nm_outcomes.proofs.StepLemmas.{arrives, withdraws}
use Rattle.nm_explored.specs.Successors.{arrival_by}
use Rattle.nm_explored.specs.Settings.{IsAt}
use Rattle.nm_explored.specs.Moves.{IsNextMessage, IsRecalled}
use Rattle.nm_explored.proofs.PlacedLemmas.{came_said, free_said, numbers_in}
use Rattle.nm_explored.proofs.SendLemmas.{sent_deed, sent_many}
use Rattle.nm_listed.specs.Tellings.{clock, pushed}
use Rattle.nm_listed.proofs.ReachLemmas.{IsReached, is_at, is_proper, reached_on}
use Rattle.nm_listed.proofs.SteadyLemmas.{steady_packet}
use Rattle.nm_listed.proofs.TellLemmas.{AreEarly, MayBe, early_all, moved_spots, step_at}

-- the sends of early events are early
pub sends_early : (t : ℕ) (h : List Event) (to : ℕ) → AreEarly t h →
    AllByRecursion (λ (s : Sent). s.stamp < t) (sends h to)
sends_early t [] to early = tt
sends_early t (e ∷ h) to early = by_event e.what e.stamp early.0 (sends_early t h to early.1)
  where
    by_event : (what : Happened) (stamp : ℕ) → stamp < t → AllByRecursion (λ (s : Sent). s.stamp < t) (sends h to) →
        AllByRecursion (λ (s : Sent). s.stamp < t) (filter (λ s. s.to == to)
        (cons_option (sent_of stamp what) (filter_map (λ (e : Event). sent_of e.stamp e.what) h)))
    by_event (event.Send to' n tag ctx len how line) stamp low later = by_test (to' == to)
      where
        by_test : (b : Bool) → AllByRecursion (λ (s : Sent). s.stamp < t)
            (cond b (record {
              stamp = stamp;
              to = to';
              n = n;
              tag = tag;
              ctx = ctx;
              len = len;
              how = how;
              line = line;
            } ∷ sends h to) (sends h to))
        by_test true = (low, later)
        by_test false = later
    by_event what stamp low later = later

stamp_low : (t : ℕ) (ss : List Sent) (k : ℕ) (s : Sent) → AllByRecursion (λ (s : Sent). s.stamp < t) ss →
    slice_get ss k ≡ Some s → s.stamp < t
stamp_low t [] k s early here = absurd (no_some s here)
stamp_low t (x ∷ ss) zero s early here = subst (λ (s : Sent). s.stamp < t) (same_some x s here) early.0
stamp_low t (x ∷ ss) (suc k) s early here = stamp_low t ss k s early.1 here

module _ (shape : Sizes) (lines : List Line) (commands : AreCommands shape.ranks lines)
    (script : IsScript shape.ranks lines) (log : List Step) (states : List Spot)
    (reached : IsReached shape lines log states) (i : ℕ) (low : i < shape.ranks) (spot : Spot)
    (here : slice_get states i ≡ Some spot) where
  abbrev h : List Event
  h = history_in log i

  abbrev t : ℕ
  t = clock log

  at : IsAt shape lines log (λ k. slice_get states k) i spot
  at = is_at shape lines commands script log states reached.told i low spot here

  -- the next message of a rank
  arrive_so : (from : ℕ) → from < shape.ranks → (s : Sent) →
      slice_get (sends (history_in log from) i) (length (arrivals h from)) ≡ Some s →
      IsReached shape lines
      (pushed log i (event.Arrive (record { n = length (arrivals h from); env = envelope from s })))
      (slice_set states i (arrived_at spot (record { n = length (arrivals h from); env = envelope from s })))
  arrive_so from inside s sent =
      reached_on shape lines commands script log states (slice_set states i (arrived_at spot a)) reached i
      (event.Arrive a)
      low may refl refl
      (moved_spots shape lines log (step_at i t (event.Arrive a)) states (arrived_at spot a) low reached.told.stands
      (arrives lines h spot at.is t a
      (is_proper shape lines commands script log states reached.told i (event.Arrive a) low may)))
      (steady_packet shape (commands_of i lines) h t (event.Arrive a) refl (reached.told.steady i))
    where
      a : Arrival
      a = record { n = length (arrivals h from); env = envelope from s }

      may : MayBe shape lines log t i (event.Arrive a)
      may = record {
        answers = tt;
        starts = tt;
        numbers = (inside, refl);
        cancels = tt;
        wholes = tt;
        ends = tt;
        claims = tt;
        outs = λ j low. tt;
        answered = λ j low. tt;
        comes = λ k low. on_test (from == k)
            (λ is.
            subst (λ (k : ℕ). IsSomeAnd (slice_get (sends (history_in log k) i) (length (arrivals h k)))
            (λ s'. (envelope from s ≡ envelope k s') × (s'.stamp < t))) (same_number from k is)
            (subst (λ (o : Option Sent). IsSomeAnd o (λ s'. (envelope from s ≡ envelope from s') × (s'.stamp < t)))
            (sym sent) (
              refl,
              stamp_low t (sends (history_in log from) i) (length (arrivals h from)) s
                  (sends_early t (history_in log from) i (reached.told.early from)) sent,
            )));
        body = λ k low. tt;
        asked = λ k low. tt;
      }

  pub comes_now : (a : Arrival) → IsNextMessage shape.ranks (λ k. slice_get states k) i a →
      IsReached shape lines (pushed log i (event.Arrive a)) (slice_set states i (arrived_at spot a))
  comes_now a is = by_place (ltb n (length (sends (history_in log from) i))) refl
    where
      from : ℕ
      from = is.from

      n : ℕ
      n = length (arrivals h from)

      other : (x : Spot) × (slice_get states from ≡ Some x) × IsSpotOf lines (history_in log from) x
      other = reached.told.stands from is.within

      many : count_by (λ (b : Arrival). b.env.from == from) spot.came ≡ n
      many = sym (length-filter (λ (b : Arrival). b.env.from == from) spot.came) ∙ at.is.came from

      next : option_and_then (arrival_by from n) (slice_get (filter (is_send_by i) other.0.deeds) n) ≡ Some a
      next =
          ap (λ (n : ℕ). option_and_then (arrival_by from n) (slice_get (filter (is_send_by i) other.0.deeds) n))
          (sym many)
          ∙ sym (ap (λ (o : Option Spot). option_and_then (λ (spot : Spot). option_and_then (λ (other : Spot).
          let n = count_by (λ (b : Arrival). b.env.from == from) spot.came in
          option_and_then (arrival_by from n) (slice_get (filter (is_send_by i) other.deeds) n))
          (slice_get states from)) o) here
          ∙ ap (λ (o : Option Spot). option_and_then (λ (other : Spot).
          let n = count_by (λ (b : Arrival). b.env.from == from) spot.came in
          option_and_then (arrival_by from n) (slice_get (filter (is_send_by i) other.deeds) n)) o) other.1)
          ∙ is.next

      by_place : (b : Bool) → ltb n (length (sends (history_in log from) i)) ≡ b →
          IsReached shape lines (pushed log i (event.Arrive a)) (slice_set states i (arrived_at spot a))
      by_place true below =
          let inside : n < length (sends (history_in log from) i) = grind (arith, nat_tests) in
          let s = get_some (sends (history_in log from) i) n inside in
          let same : record { n = n; env = envelope from s.0 } ≡ a =
          same_some _ a
          (sym (ap (λ (o : Option Deed). option_and_then (arrival_by from n) o)
          (sent_deed lines (history_in log from) other.0 other.2 i n s.0 s.1)) ∙ next) in
          subst (λ (a : Arrival). IsReached shape lines (pushed log i (event.Arrive a))
          (slice_set states i (arrived_at spot a))) same
          (arrive_so from is.within s.0 s.1)
      by_place false above =
          let high : length (sends (history_in log from) i) ≤ n = grind (arith, nat_tests) in
          let count = sent_many lines (history_in log from) other.0 other.2 i in
          let past : length (filter (is_send_by i) other.0.deeds) ≤ n = omega (arith, high, count) in
          absurd (no_some a
          (sym (ap (λ (o : Option Deed). option_and_then (arrival_by from n) o)
          (slice_get_past (filter (is_send_by i) other.0.deeds) n past)) ∙ next))

  free_is : (from n : ℕ) → free_lem spot from n ≡ is_free_message h (matched_pairs h) from n
  unfolding is_free_message
  free_is from n = free_said lines h spot at.is from n

  last_part : (a b c : Bool) → (a && b && not c) ≡ true → c ≡ false
  last_part true true false is = refl
  last_part true true true is = absurd (false≢true is)
  last_part true false c is = absurd (false≢true is)
  last_part false b c is = absurd (false≢true is)

  goes_so : (from n : ℕ) (other : Spot) → slice_get states from ≡ Some other →
      list_any (is_message from n) spot.came ≡ true → free_lem spot from n ≡ true →
      list_any (is_recall_by i n) other.deeds ≡ true →
      IsReached shape lines (pushed log i (event.Withdraw from n true)) (slice_set states i (withdrawn_at spot from n))
  goes_so from n other there came free recall =
      reached_on shape lines commands script log states (slice_set states i (withdrawn_at spot from n)) reached i what
      low may refl refl
      (moved_spots shape lines log (step_at i t what) states (withdrawn_at spot from n) low reached.told.stands
      (withdraws lines h spot at.is t from n))
      (steady_packet shape (commands_of i lines) h t what refl (reached.told.steady i))
    where
      what : Happened
      what = event.Withdraw from n true

      arrived : happened (is_arrival from n) h ≡ true
      arrived = sym (came_said lines h spot at.is from n) ∙ came

      inside : from < shape.ranks
      inside = came_within shape.ranks from n h (numbers_in shape lines log reached.told.is_log i) arrived

      ends : AtEach (λ b e. EndAt b e.what) h
      ends = AtEach-along (λ b e. MayFollow shape (commands_of i lines) b e) (λ b e. EndAt b e.what) h
          (λ b e next. next.ends) (all_follow shape lines log reached.told.is_log i)

      is_free : is_free_message h (matched_pairs h) from n ≡ true
      is_free = sym (free_is from n) ∙ free

      not_late : happened (is_withdraw from n false) h ≡ false
      not_late =
          not_true _ (λ late.
          false≢true
          (sym (ap not is_free)
          ∙ and_right (happened (is_arrival from n) h) (not (is_free_message h (matched_pairs h) from n))
          (late_past from n h ends late)))

      recalled : happened (is_recall i n) (history_in log from) ≡ true
      recalled =
          let s = reached.told.stands from inside in
          let same : s.0 ≡ other = same_some s.0 other (sym s.1 ∙ there) in
          sym ((said lines (history_in log from) s.0 s.2).recalled i n)
          ∙ ap (λ (x : Spot). list_any (is_recall_by i n) x.deeds) same ∙ recall

      may : MayBe shape lines log t i what
      may = record {
        answers = tt;
        starts = tt;
        numbers = tt;
        cancels = tt;
        wholes = tt;
        ends = (
          last_part (not (is_taken h from n)) (not (happened (is_claim from n) h))
              (happened (is_withdraw from n true) h)
              (sym (free_said lines h spot at.is from n) ∙ free),
          not_late,
          arrived,
          sym is_free,
        );
        claims = tt;
        outs = λ j low. tt;
        answered = λ j low. tt;
        comes = λ k low. tt;
        body = λ k low. tt;
        asked = λ k low. on_test (from == k)
            (λ is.
            subst (λ (k : ℕ). IsTrue (happened (is_recall i n) (earlier_than t (history_in log k))))
            (same_number from k is)
            (subst (λ (g : List Event). IsTrue (happened (is_recall i n) g))
            (sym (early_all t (history_in log from) (reached.told.early from))) recalled));
      }

  pub goes_now : (m : message.Message) → IsRecalled (λ k. slice_get states k) i spot m →
      IsReached shape lines (pushed log i (event.Withdraw m.rank m.n true))
      (slice_set states i (withdrawn_at spot m.rank m.n))
  goes_now m is =
      subst (λ (m : message.Message). IsReached shape lines (pushed log i (event.Withdraw m.rank m.n true))
      (slice_set states i (withdrawn_at spot m.rank m.n)))
      is.message
      (by_other (slice_get states is.arrival.env.from) refl
      (sym (ap (λ (o : Option Spot). option_map_or (λ (spot : Spot). option_map_or (λ (other : Spot).
      list_any (is_message is.arrival.env.from is.arrival.n) spot.came
      && (free_lem spot is.arrival.env.from is.arrival.n && list_any (is_recall_by i is.arrival.n) other.deeds))
      (slice_get states is.arrival.env.from) false) o false) here) ∙ is.free))
    where
      by_other : (o : Option Spot) → slice_get states is.arrival.env.from ≡ o →
          option_map_or (λ (other : Spot). list_any (is_message is.arrival.env.from is.arrival.n) spot.came
          && (free_lem spot is.arrival.env.from is.arrival.n && list_any (is_recall_by i is.arrival.n) other.deeds)) o
          false
          ≡ true →
          IsReached shape lines (pushed log i (event.Withdraw is.arrival.env.from is.arrival.n true))
          (slice_set states i (withdrawn_at spot is.arrival.env.from is.arrival.n))
      by_other None there free = absurd (false≢true free)
      by_other (Some other) there free =
          let rest = and_right (list_any (is_message is.arrival.env.from is.arrival.n) spot.came) _ free in
          goes_so is.arrival.env.from is.arrival.n other there
          (and_left (list_any (is_message is.arrival.env.from is.arrival.n) spot.came) _ free)
          (and_left (free_lem spot is.arrival.env.from is.arrival.n) _ rest)
          (and_right (free_lem spot is.arrival.env.from is.arrival.n) _ rest)
