-- At rest, what is left of the messages is put behind the log.
use Rattle.std.proofs.Common.{◌≡◌, ℕ, zero, suc, ◌<◌, ◌≤◌, ◌==◌, ◌&&◌, ◌||◌, not, Bool}
use Rattle.std.proofs.Common.{true, false, cond}
use Rattle.std.proofs.Common.{ltb, Option, Some, None, List, [], ◌∷◌, length, refl, sym, ◌∙◌, ap, subst, arith}
use Rattle.std.specs.Prelude.{if◌then◌else◌, count_by, option_and_then}
use Rattle.std.specs.List.{filter, list_any, slice_get}
use Rattle.std.specs.Option.{option_map_or}
use Rattle.std.proofs.lemmas.Bool.{false≢true}
use Rattle.std.proofs.lemmas.Bool.Decides.{nat_tests}
use Rattle.std.proofs.lemmas.List.Sums.{length-filter}
use Rattle.nm_types.specs.declared.messages.Arrival.{Arrival}
use Rattle.nm_types.specs.declared.scripts.Line.{Line}
use Rattle.nm_types.specs.Limits.{IsScript}
use Rattle.nm_types.specs.Sizes.{Sizes}
use Rattle.nm_types.proofs.ListLemmas.{get_some}
use Rattle.nm_types.proofs.NumberLemmas.{same_number}
use Rattle.nm_types.proofs.OptionLemmas.{no_some, same_some}
use Rattle.nm_types.proofs.TruthLemmas.{both, or_left, or_right}
use Rattle.nm_history.specs.declared.events.Event.{Event}
use Rattle.nm_history.specs.declared.events.Happened.{Happened}
use Rattle.nm_history.specs.declared.events.Happened.TheVariants as event
use Rattle.nm_history.specs.Delivery.{ArriveInOrder}
use Rattle.nm_history.specs.Happens.{happened, is_arrival, is_out, is_recall, is_same, is_send, is_undone}
use Rattle.nm_history.specs.Happens.{is_whole, is_withdraw}
use Rattle.nm_history.specs.Sends.{Arrived, Sent, arrivals, sends}
use Rattle.nm_history.proofs.AppendLemmas.{happened-push}
use Rattle.nm_history.proofs.OnceLemmas.{eqb_self}
use Rattle.nm_match.specs.Deeds.{is_message}
use Rattle.nm_match.proofs.NumberLemmas.{is_known_message-arrived, messages_numbered}
use Rattle.nm_outcomes.specs.Logs.{Step, history_in}
use Rattle.nm_outcomes.specs.Paths.{AreCommands}
use Rattle.nm_outcomes.specs.Places.{is_quiet}
use Rattle.nm_outcomes.specs.RankStates.{Spot, free_lem}
use Rattle.nm_outcomes.specs.Results.{is_past_recall, may_have_left}
use Rattle.nm_outcomes.specs.declared.spots.deeds.Deed.{Deed}
use Rattle.nm_outcomes.specs.Looks.{is_recall_by, is_send_by}
use Rattle.nm_outcomes.proofs.LogLemmas.{all_delivered, grown_here}
use Rattle.nm_outcomes.proofs.SentLemmas.{sends_numbered}
use Rattle.nm_explored.specs.Successors.{arrival_by}
use Rattle.nm_explored.specs.Rests.{AreAtRest}
use Rattle.nm_explored.specs.Settings.{IsAt}
use Rattle.nm_explored.proofs.PlacedLemmas.{came_said, numbers_in}
use Rattle.nm_explored.proofs.SendLemmas.{sent_deed, sent_many}
use Rattle.nm_outcomes.proofs.SaidLemmas.{said}
use Rattle.nm_listed.specs.Tellings.{all_over, answered, clock, each_below, may_leave, over, over_pair, over_rank}
use Rattle.nm_listed.specs.Tellings.{pushed, with_answer, with_late, with_out, with_undone, with_whole}
use Rattle.nm_listed.proofs.QuietLemmas.{late_may, out_may, undone_may, whole_may, whole_plain}
use Rattle.nm_listed.proofs.ReachLemmas.{is_at}
use Rattle.nm_listed.proofs.ResultLemmas.{left_said, past_said, recall_said}
use Rattle.nm_listed.proofs.TellLemmas.{GoesOn, IsTold, MayBe, goes_both, goes_nowhere, goes_one, happened_on}
use Rattle.nm_listed.proofs.TellLemmas.{now, step_at, told_quiet}

-- no more messages come than are sent: where not fewer came, as many did
pub came_as_many : (from : ℕ) (ss : List Sent) (as' : List Arrived) → ArriveInOrder from ss as' →
    length ss ≤ length as' → length as' ≡ length ss
came_as_many from [] [] order high = refl
came_as_many from (s ∷ ss) [] order high = absurd (omega (arith, high))
came_as_many from [] (a ∷ as') order high = absurd order
came_as_many from (s ∷ ss) (a ∷ as') order high = ap suc (came_as_many from ss as' order.2 (omega (arith, high)))

-- a message that was sent stands among the sends
pub sent_happened : (h : List Event) (to k : ℕ) (s : Sent) → slice_get (sends h to) k ≡ Some s →
    happened (is_send to s.n) h ≡ true
sent_happened [] to k s here = absurd (no_some s here)
sent_happened (e ∷ h) to k s here = by_event e.what e.stamp k here (λ k here. sent_happened h to k s here)
  where
    by_event : (what : Happened) (stamp k : ℕ) →
        slice_get (sends (record { stamp = stamp; what = what } ∷ h) to) k ≡ Some s →
        ((k : ℕ) → slice_get (sends h to) k ≡ Some s → happened (is_send to s.n) h ≡ true) →
        (is_send to s.n what || happened (is_send to s.n) h) ≡ true
    by_event (event.Send to' n tag ctx len how line) stamp k here later = by_rank (to' == to) k here
      where
        s0 : Sent
        s0 = record {
          stamp = stamp;
          to = to';
          n = n;
          tag = tag;
          ctx = ctx;
          len = len;
          how = how;
          line = line;
        }

        by_rank : (b : Bool) (k : ℕ) → slice_get (cond b (s0 ∷ sends h to) (sends h to)) k ≡ Some s →
            ((b && n == s.n) || happened (is_send to s.n) h) ≡ true
        by_rank false k here = later k here
        by_rank true zero here =
            or_left (n == s.n) _
            (ap (λ (x : Sent). n == x.n) (sym (same_some s0 s here)) ∙ eqb_self n)
        by_rank true (suc k) here = or_right (n == s.n) _ (later k here)
    by_event what stamp k here later =
        or_right (is_send to s.n what) _ (later k here)

module _ (shape : Sizes) (lines : List Line) (commands : AreCommands shape.ranks lines)
    (script : IsScript shape.ranks lines) (states : List Spot)
    (rest : AreAtRest shape.ranks lines (λ k. slice_get states k)) where
  -- the log goes on quietly to this one, of which this holds
  abbrev pub Then : List Step → List Step → (List Step → Type 0) → Type 0
  Then log later P = GoesOn log later × IsTold shape lines later states × P later

  -- so for all numbers below one
  pub all_below : (Q : ℕ → List Step → Type 0) →
      ((k : ℕ) (a b : List Step) → IsTold shape lines a states → IsTold shape lines b states → GoesOn a b → Q k a →
      Q k b) →
      (f : ℕ → List Step → List Step) (bound : ℕ) →
      ((k : ℕ) → k < bound → (log : List Step) → IsTold shape lines log states → Then log (f k log) (Q k)) →
      (log : List Step) → IsTold shape lines log states →
      Then log (each_below f bound log) (λ later. (k : ℕ) → k < bound → Q k later)
  all_below Q keep f zero each log told = (goes_nowhere log, told, λ k low. absurd (omega (arith, low)))
  all_below Q keep f (suc b) each log told =
      let first = all_below Q keep f b (λ k low. each k (omega (arith, low))) log told in
      let mid : List Step = each_below f b log in
      let last = each b (omega arith) mid first.1 in (
        goes_both log mid (f b mid) first.0 last.0,
        last.1,
        λ k low. by_last k low (k == b) refl mid (f b mid) first.1 last.1 last.0 first.2 last.2,
      )
    where
      by_last : (k : ℕ) → k < suc b → (c : Bool) → (k == b) ≡ c → (one two : List Step) →
          IsTold shape lines one states → IsTold shape lines two states → GoesOn one two →
          ((k : ℕ) → k < b → Q k one) → Q b two → Q k two
      by_last k low true is one two told1 told2 on before now =
          subst (λ (j : ℕ). Q j two) (sym (same_number k b is)) now
      by_last k low false is one two told1 told2 on before now =
          let below : k < b = grind (arith, nat_tests) in keep k one two told1 told2 on (before k below)

  -- two ranks
  module _ (i j : ℕ) (low : i < shape.ranks) (below : j < shape.ranks) (spot other : Spot)
      (here : slice_get states i ≡ Some spot) (there : slice_get states j ≡ Some other) where
    -- all messages came
    pub all_came : (log : List Step) → IsTold shape lines log states →
        length (arrivals (history_in log j) i) ≡ length (sends (history_in log i) j)
    all_came log told = by_place (ltb n (length (sends (history_in log i) j))) refl
      where
        n : ℕ
        n = length (arrivals (history_in log j) i)

        at : IsAt shape lines log (λ k. slice_get states k) j other
        at = is_at shape lines commands script log states told j below other there

        mine : IsAt shape lines log (λ k. slice_get states k) i spot
        mine = is_at shape lines commands script log states told i low spot here

        many : count_by (λ (b : Arrival). b.env.from == i) other.came ≡ n
        many = sym (length-filter (λ (b : Arrival). b.env.from == i) other.came) ∙ at.is.came i

        none : option_and_then (arrival_by i n) (slice_get (filter (is_send_by j) spot.deeds) n) ≡ None
        none =
            ap (λ (n : ℕ). option_and_then (arrival_by i n) (slice_get (filter (is_send_by j) spot.deeds) n)) (sym many)
            ∙ sym (ap (λ (o : Option Spot). option_and_then (λ (spot : Spot). option_and_then (λ (other : Spot).
            let n = count_by (λ (b : Arrival). b.env.from == i) spot.came in
            option_and_then (arrival_by i n) (slice_get (filter (is_send_by j) other.deeds) n))
            (slice_get states i)) o) there
            ∙ ap (λ (o : Option Spot). option_and_then (λ (x : Spot).
            let n = count_by (λ (b : Arrival). b.env.from == i) other.came in
            option_and_then (arrival_by i n) (slice_get (filter (is_send_by j) x.deeds) n)) o) here)
            ∙ (rest j below).messages i low

        by_place : (b : Bool) → ltb n (length (sends (history_in log i) j)) ≡ b →
            n ≡ length (sends (history_in log i) j)
        by_place true is =
            let inside : n < length (sends (history_in log i) j) = grind (arith, nat_tests) in
            let s = get_some (sends (history_in log i) j) n inside in
            absurd (no_some _
            (sym none
            ∙ ap (λ (o : Option Deed). option_and_then (arrival_by i n) o)
            (sent_deed lines (history_in log i) spot mine.is j n s.0 s.1)))
        by_place false is =
            let high : length (sends (history_in log i) j) ≤ n = grind (arith, nat_tests) in
            came_as_many i (sends (history_in log i) j) (arrivals (history_in log j) i)
            (all_delivered shape lines log told.is_log i j low below).messages high

    -- a message
    module _ (n : ℕ) where
      -- it is over, as far as it can be
      pub record IsEnded (log : List Step) : Type 0 where
        pub recalls : happened (is_recall j n) (history_in log i) ≡ true →
            (happened (is_undone j n true) (history_in log i) || happened (is_undone j n false) (history_in log i))
            ≡ true
        pub left : may_have_left (history_in log i) (history_in log j) i j n ≡ true →
            (happened (is_out j n) (history_in log i) ≡ true) × (happened (is_whole i n) (history_in log j) ≡ true)

      recall_same : (a b : List Step) → IsTold shape lines a states → IsTold shape lines b states →
          happened (is_recall j n) (history_in a i) ≡ happened (is_recall j n) (history_in b i)
      recall_same a b one two =
          sym (recall_said shape lines commands script states i low spot here j n below other there a one)
          ∙ recall_said shape lines commands script states i low spot here j n below other there b two

      left_same : (a b : List Step) → IsTold shape lines a states → IsTold shape lines b states →
          may_have_left (history_in a i) (history_in a j) i j n ≡ may_have_left (history_in b i) (history_in b j) i j n
      left_same a b one two =
          sym (left_said shape lines commands script states i low spot here j n below other there a one)
          ∙ left_said shape lines commands script states i low spot here j n below other there b two

      pub ended_still : (a b : List Step) → IsTold shape lines a states → IsTold shape lines b states → GoesOn a b →
          IsEnded a → IsEnded b
      ended_still a b one two on was = record {
        recalls = λ is.
            by_either (happened (is_undone j n true) (history_in a i)) refl
            (was.recalls (recall_same a b one two ∙ is));
        left = λ is.
            let both' = was.left (left_same a b one two ∙ is) in (
              happened_on (is_out j n) a b on i both'.0,
              happened_on (is_whole i n) a b on j both'.1,
            );
      }
        where
          by_either : (c : Bool) → happened (is_undone j n true) (history_in a i) ≡ c →
              (c || happened (is_undone j n false) (history_in a i)) ≡ true →
              (happened (is_undone j n true) (history_in b i) || happened (is_undone j n false) (history_in b i)) ≡ true
          by_either true is some =
              or_left (happened (is_undone j n true) (history_in b i)) _ (happened_on (is_undone j n true) a b on i is)
          by_either false is some =
              or_right (happened (is_undone j n true) (history_in b i)) _
              (happened_on (is_undone j n false) a b on i some)

      -- a quiet step of a rank, which makes this happen
      one_more : (log : List Step) (told : IsTold shape lines log states) (k : ℕ) → k < shape.ranks →
          (what : Happened) → is_quiet what ≡ true → MayBe shape lines log (clock log) k what →
          (test : Happened → Bool) → test what ≡ true →
          Then log (pushed log k what) (λ later. happened test (history_in later k) ≡ true)
      one_more log told k inside what quiet may test is = (
        goes_one log (step_at k (clock log) what) quiet,
        told_quiet shape lines log states told k what quiet inside may,
        ap (λ (h : List Event). happened test h) (grown_here log (step_at k (clock log) what))
            ∙ happened-push test (history_in log k) (now (clock log) what)
            ∙ or_right (happened test (history_in log k)) (test what) is,
      )

      -- .. or is not taken where that has happened
      unless : (log push : List Step) (b : Bool) (P : List Step → Type 0) → (b ≡ true → Then log log P) →
          (b ≡ false → Then log push P) → Then log (if b then log else push) P
      unless log push true P there not_yet = there refl
      unless log push false P there not_yet = not_yet refl

      two_self : (a b : ℕ) → (a == a && b == b) ≡ true
      two_self a b = both (a == a) (b == b) (eqb_self a) (eqb_self b)

      -- the answer of a recall came back
      abbrev IsBack : List Step → Type 0
      IsBack later =
          (happened (is_undone j n true) (history_in later i) || happened (is_undone j n false) (history_in later i))
          ≡ true

      undone_then : (log : List Step) (told : IsTold shape lines log states) (done : Bool) →
          happened (is_recall j n) (history_in log i) ≡ true →
          happened (is_withdraw i n done) (history_in log j) ≡ true → Then log (with_undone log i j n done) IsBack
      undone_then log told done recalled withdrawn =
          unless log (pushed log i (event.Undone j n done))
          (happened (is_undone j n true) (history_in log i) || happened (is_undone j n false) (history_in log i)) IsBack
          (λ back. (goes_nowhere log, told, back))
          (λ none. not_yet (no_left (happened (is_undone j n true) (history_in log i)) _ none)
          (no_right (happened (is_undone j n true) (history_in log i)) _ none))
        where
          no_left : (a b : Bool) → (a || b) ≡ false → a ≡ false
          no_left false b none = refl
          no_left true b none = none

          no_right : (a b : Bool) → (a || b) ≡ false → b ≡ false
          no_right false b none = none
          no_right true b none = absurd (false≢true (sym none))

          same_done : (d : Bool) → is_same d d ≡ true
          same_done true = refl
          same_done false = refl

          is_back : (later : List Step) (d : Bool) → happened (is_undone j n d) (history_in later i) ≡ true →
              IsBack later
          is_back later true is = or_left (happened (is_undone j n true) (history_in later i)) _ is
          is_back later false is = or_right (happened (is_undone j n true) (history_in later i)) _ is

          not_yet : happened (is_undone j n true) (history_in log i) ≡ false →
              happened (is_undone j n false) (history_in log i) ≡ false →
              Then log (pushed log i (event.Undone j n done)) IsBack
          not_yet never none =
              let more = one_more log told i low (event.Undone j n done) refl
              (undone_may shape lines log told.is_log (clock log) told.early i j n done never none recalled withdrawn)
              (is_undone j n done) (both (j == j && n == n) _ (two_self j n) (same_done done)) in
              (more.0, more.1, is_back (pushed log i (event.Undone j n done)) done more.2)

      -- a message that was recalled came, and is not free
      is_past : (log : List Step) → IsTold shape lines log states → n < length (sends (history_in log i) j) →
          happened (is_recall j n) (history_in log i) ≡ true → is_past_recall (history_in log j) i n ≡ true
      is_past log told inside recalled =
          sym (past_said shape lines commands script states i low spot here j n below other there log told)
          ∙ both (list_any (is_message i n) other.came) (not (free_lem other i n)) came
          (not_free (free_lem other i n)
          (sym (ap (λ (b : Bool). b && (free_lem other i n && list_any (is_recall_by j n) spot.deeds)) came)
          ∙ none) recall)
        where
          at : IsAt shape lines log (λ k. slice_get states k) j other
          at = is_at shape lines commands script log states told j below other there

          came : list_any (is_message i n) other.came ≡ true
          came =
              came_said lines (history_in log j) other at.is i n ∙ sym (is_known_message-arrived (history_in log j) i n)
              ∙ messages_numbered shape.ranks (history_in log j) (numbers_in shape lines log told.is_log j) i n
              ∙ (let count = all_came log told in
              let small : n < length (arrivals (history_in log j) i) = omega (arith, inside, count) in
              grind (arith, nat_tests))

          recall : list_any (is_recall_by j n) spot.deeds ≡ true
          recall =
              recall_said shape lines commands script states i low spot here j n below other there log told ∙ recalled

          none : (list_any (is_message i n) other.came
              && (free_lem other i n && list_any (is_recall_by j n) spot.deeds)) ≡ false
          none =
              sym (ap (λ (o : Option Spot). option_map_or (λ (spot : Spot). option_map_or (λ (other : Spot).
              list_any (is_message i n) spot.came && (free_lem spot i n && list_any (is_recall_by j n) other.deeds))
              (slice_get states i) false) o false) there
              ∙ ap (λ (o : Option Spot). option_map_or (λ (x : Spot). list_any (is_message i n) other.came
              && (free_lem other i n && list_any (is_recall_by j n) x.deeds)) o false) here)
              ∙ (rest j below).free i n

          not_free : (f : Bool) → (f && list_any (is_recall_by j n) spot.deeds) ≡ false →
              list_any (is_recall_by j n) spot.deeds ≡ true → not f ≡ true
          not_free false none recall = refl
          not_free true none recall = absurd (false≢true (sym none ∙ recall))

      late_then : (log : List Step) (told : IsTold shape lines log states) →
          happened (is_recall j n) (history_in log i) ≡ true → is_past_recall (history_in log j) i n ≡ true →
          happened (is_withdraw i n true) (history_in log j) ≡ false →
          Then log (with_late log i j n) (λ later. happened (is_withdraw i n false) (history_in later j) ≡ true)
      late_then log told recalled past gone =
          unless log (pushed log j (event.Withdraw i n false)) (happened (is_withdraw i n false) (history_in log j))
          (λ later. happened (is_withdraw i n false) (history_in later j) ≡ true)
          (λ late. (goes_nowhere log, told, late))
          (λ late.
          one_more log told j below (event.Withdraw i n false) refl
          (late_may shape lines log told.is_log (clock log) told.early i j n recalled past gone late)
          (is_withdraw i n false) (both (i == i && n == n) true (two_self i n) refl))

      abbrev Answered : List Step → List Step → Type 0
      Answered log later = happened (is_recall j n) (history_in log i) ≡ true → IsBack later

      answer_recall : (log : List Step) → IsTold shape lines log states → n < length (sends (history_in log i) j) →
          Then log (answered log i j n) (Answered log)
      answer_recall log told inside = by_recall (happened (is_recall j n) (history_in log i)) refl
        where
          by_withdrawal : happened (is_recall j n) (history_in log i) ≡ true → (w : Bool) →
              happened (is_withdraw i n true) (history_in log j) ≡ w →
              Then log (if w then with_undone log i j n true else with_undone (with_late log i j n) i j n false) IsBack
          by_withdrawal recalled true gone = undone_then log told true recalled gone
          by_withdrawal recalled false gone =
              let late : List Step = with_late log i j n in
              let first = late_then log told recalled (is_past log told inside recalled) gone in
              let last = undone_then late first.1 false (happened_on (is_recall j n) log late first.0 i recalled)
              first.2 in
              (goes_both log late (with_undone late i j n false) first.0 last.0, last.1, last.2)

          by_recall : (r : Bool) → happened (is_recall j n) (history_in log i) ≡ r →
              Then log (if r then with_answer log i j n else log) (Answered log)
          by_recall false recall = (goes_nowhere log, told, λ recalled. absurd (false≢true (sym recall ∙ recalled)))
          by_recall true recall =
              let more = by_withdrawal recall (happened (is_withdraw i n true) (history_in log j)) refl in
              (more.0, more.1, λ recalled. more.2)

      leave : (log : List Step) → IsTold shape lines log states →
          happened (is_send j n) (history_in log i) ≡ true →
          may_have_left (history_in log i) (history_in log j) i j n ≡ true →
          Then log (with_out log i j n) (λ later. happened (is_out j n) (history_in later i) ≡ true)
      leave log told sent left =
          unless log (pushed log i (event.Out j n)) (happened (is_out j n) (history_in log i))
          (λ later. happened (is_out j n) (history_in later i) ≡ true)
          (λ is. (goes_nowhere log, told, is))
          (λ is.
          one_more log told i low (event.Out j n) refl
          (out_may shape lines log told.is_log (clock log) told.early i j n is sent left) (is_out j n) (two_self j n))

      become_whole : (log : List Step) → IsTold shape lines log states → n < length (sends (history_in log i) j) →
          may_have_left (history_in log i) (history_in log j) i j n ≡ true →
          Then log (with_whole log j i n) (λ later. happened (is_whole i n) (history_in later j) ≡ true)
      become_whole log told inside left =
          unless log (pushed log j (event.Whole i n)) (happened (is_whole i n) (history_in log j))
          (λ later. happened (is_whole i n) (history_in later j) ≡ true)
          (λ is. (goes_nowhere log, told, is))
          (λ is.
          one_more log told j below (event.Whole i n) refl
          (whole_may shape lines log told.is_log (clock log) told.early i j n is came
          (whole_plain shape lines log told.is_log (clock log) told.early i j n low below left))
          (is_whole i n) (two_self i n))
        where
          came : happened (is_arrival i n) (history_in log j) ≡ true
          came =
              sym (is_known_message-arrived (history_in log j) i n)
              ∙ messages_numbered shape.ranks (history_in log j) (numbers_in shape lines log told.is_log j) i n
              ∙ (let count = all_came log told in
              let small : n < length (arrivals (history_in log j) i) = omega (arith, inside, count) in
              grind (arith, nat_tests))

      -- how many messages there are does not change
      pub sends_still : (a b : List Step) → IsTold shape lines a states → IsTold shape lines b states →
          length (sends (history_in a i) j) ≡ length (sends (history_in b i) j)
      sends_still a b one two =
          sym (sent_many lines (history_in a i) spot
          (is_at shape lines commands script a states one i low spot here).is j)
          ∙ sent_many lines (history_in b i) spot (is_at shape lines commands script b states two i low spot here).is j

      pub end_message : (log : List Step) → IsTold shape lines log states → n < length (sends (history_in log i) j) →
          Then log (over spot other i j n log) IsEnded
      end_message log told inside = by_left (may_leave spot other i j n) refl
        where
          one : List Step
          one = answered log i j n

          two : List Step
          two = with_out one i j n

          three : List Step
          three = with_whole two j i n

          first : Then log (answered log i j n) (Answered log)
          first = answer_recall log told inside

          recalls_so : (later : List Step) → IsTold shape lines later states → GoesOn one later →
              happened (is_recall j n) (history_in later i) ≡ true → IsBack later
          recalls_so later told2 on recalled =
              by_either (happened (is_undone j n true) (history_in one i)) refl
              (first.2 (recall_same log later told told2 ∙ recalled))
            where
              by_either : (c : Bool) → happened (is_undone j n true) (history_in one i) ≡ c →
                  (c || happened (is_undone j n false) (history_in one i)) ≡ true → IsBack later
              by_either true is some =
                  or_left (happened (is_undone j n true) (history_in later i)) _
                  (happened_on (is_undone j n true) one later on i is)
              by_either false is some =
                  or_right (happened (is_undone j n true) (history_in later i)) _
                  (happened_on (is_undone j n false) one later on i some)

          said_left : (later : List Step) → IsTold shape lines later states →
              may_leave spot other i j n ≡ may_have_left (history_in later i) (history_in later j) i j n
          said_left later told2 = left_said shape lines commands script states i low spot here j n below other there
              later
              told2

          by_left : (b : Bool) → may_leave spot other i j n ≡ b → Then log (if b then three else one) IsEnded
          by_left false is = (
            first.0,
            first.1,
            record {
              recalls = recalls_so one first.1 (goes_nowhere one);
              left = λ so. absurd (false≢true (sym is ∙ said_left one first.1 ∙ so));
            },
          )
          by_left true is =
              let left1 = sym (said_left one first.1) ∙ is in
              let inside1 : n < length (sends (history_in one i) j) =
              (let many = sends_still log one told first.1 in omega (arith, inside, many)) in
              let s = get_some (sends (history_in one i) j) n inside1 in
              let sent : happened (is_send j n) (history_in one i) ≡ true =
              subst (λ (k : ℕ). happened (is_send j k) (history_in one i) ≡ true)
              (sends_numbered shape.ranks (history_in one i) (numbers_in shape lines one first.1.is_log i) j n
              s.0
              s.1) (sent_happened (history_in one i) j n s.0 s.1) in
              let second = leave one first.1 sent left1 in
              let inside2 : n < length (sends (history_in two i) j) =
              (let many = sends_still log two told second.1 in omega (arith, inside, many)) in
              let third = become_whole two second.1 inside2 (sym (said_left two second.1) ∙ is) in (
                goes_both log two three (goes_both log one two first.0 second.0) third.0,
                third.1,
                record {
                  recalls = recalls_so three third.1 (goes_both one two three second.0 third.0);
                  left = λ so. (happened_on (is_out j n) two three third.0 i second.2, third.2);
                },
              )

  -- all messages of rank i to rank j
  pub spot_at : (log : List Step) → IsTold shape lines log states → (i : ℕ) → i < shape.ranks →
      (s : Spot) × (slice_get states i ≡ Some s)
  spot_at log told i low = let s = told.stands i low in (s.0, s.1)

  abbrev pub AllEnded : (i j : ℕ) → ℕ → List Step → Type 0
  AllEnded i j count later =
      (low : i < shape.ranks) (below : j < shape.ranks) (spot other : Spot) (here : slice_get states i ≡ Some spot)
      (there : slice_get states j ≡ Some other) (n : ℕ) → n < count →
      IsEnded i j low below spot other here there n later

  -- of all ranks
  pub end_all : (log : List Step) → IsTold shape lines log states →
      Then log (all_over shape.ranks (record { log = log; states = states })) (λ later. (i : ℕ) → i < shape.ranks →
      (j : ℕ) → j < shape.ranks → AllEnded i j (length (sends (history_in log i) j)) later)
  end_all log told =
      all_below (λ i later. (j : ℕ) → j < shape.ranks → AllEnded i j (length (sends (history_in log i) j)) later)
      (λ i a b one two on was j below. still i j a b one two on (was j below))
      (λ i log. over_rank shape.ranks states i log) shape.ranks
      (λ i low start told1.
      all_below (λ j later. AllEnded i j (length (sends (history_in log i) j)) later)
      (λ j a b one two on was. still i j a b one two on was) (λ j log. over_pair states i j log) shape.ranks
      (λ j below start2 told2. of_pair i j low below start2 told2) start told1) log told
    where
      still : (i j : ℕ) (a b : List Step) → IsTold shape lines a states → IsTold shape lines b states → GoesOn a b →
          AllEnded i j (length (sends (history_in log i) j)) a → AllEnded i j (length (sends (history_in log i) j)) b
      still i j a b one two on was low below spot other here there n inside =
          ended_still i j low below spot other here there n a b one two on
          (was low below spot other here there n inside)

      same_ended : (i j : ℕ) (low low' : i < shape.ranks) (below below' : j < shape.ranks)
          (spot spot' other other' : Spot)
          (here : slice_get states i ≡ Some spot) (here' : slice_get states i ≡ Some spot')
          (there : slice_get states j ≡ Some other) (there' : slice_get states j ≡ Some other') (n : ℕ)
          (later : List Step) → IsEnded i j low below spot other here there n later →
          IsEnded i j low' below' spot' other' here' there' n later
      same_ended i j low low' below below' spot spot' other other' here here' there there' n later was = record {
        recalls = was.recalls;
        left = was.left;
      }

      pair_is : (i j : ℕ) (spot other : Spot) → slice_get states i ≡ Some spot → slice_get states j ≡ Some other →
          (start : List Step) →
          over_pair states i j start
          ≡ each_below (λ n log. over spot other i j n log) (count_by (is_send_by j) spot.deeds) start
      pair_is i j spot other here there start =
          ap (λ (o : Option Spot). option_map_or (λ (spot : Spot). option_map_or (λ (other : Spot).
          each_below (λ n log. over spot other i j n log) (count_by (is_send_by j) spot.deeds) start)
          (slice_get states j) start) o start) here
          ∙ ap (λ (o : Option Spot). option_map_or (λ (other : Spot).
          each_below (λ n log. over spot other i j n log) (count_by (is_send_by j) spot.deeds) start) o start) there

      of_pair : (i j : ℕ) → i < shape.ranks → j < shape.ranks → (start : List Step) → IsTold shape lines start states →
          Then start (over_pair states i j start) (AllEnded i j (length (sends (history_in log i) j)))
      of_pair i j low below start told1 =
          let x = spot_at log told i low in
          let y = spot_at log told j below in
          let many : count_by (is_send_by j) x.0.deeds ≡ length (sends (history_in log i) j) =
          (said lines (history_in log i) x.0 (is_at shape lines commands script log states told i low x.0 x.1).is).sent
          j in
          let all = all_below (λ n later. IsEnded i j low below x.0 y.0 x.1 y.1 n later)
          (λ n a b one two on was. ended_still i j low below x.0 y.0 x.1 y.1 n a b one two on was)
          (λ n log. over x.0 y.0 i j n log) (count_by (is_send_by j) x.0.deeds)
          (λ n inside start2 told2.
          end_message i j low below x.0 y.0 x.1 y.1 n start2 told2
          (let same = sends_still i j low below x.0 y.0 x.1 y.1 n log start2 told told2 in
          omega (arith, inside, same, many))) start told1 in
          subst (λ (later : List Step). Then start later (AllEnded i j (length (sends (history_in log i) j))))
          (sym (pair_is i j x.0 y.0 x.1 y.1 start)) (
            all.0,
            all.1,
            λ low' below' spot other here there n inside.
                same_ended i j low low' below below' x.0 spot y.0 other x.1 here y.1 there n
                (each_below (λ n log. over x.0 y.0 i j n log) (count_by (is_send_by j) x.0.deeds) start)
                (all.2 n (omega (arith, inside, many))),
          )
