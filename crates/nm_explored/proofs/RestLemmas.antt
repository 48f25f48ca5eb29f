-- Where the places of a run are at rest, so are the states of its ranks, and they tell what it tells.
use Rattle.std.proofs.Common.{◌≡◌, ℕ, ◌<◌, ◌≤◌, ◌==◌, ◌&&◌, ◌||◌, not, Bool, true, false, Option, Some, None, List, []}
use Rattle.std.proofs.Common.{◌∷◌, length, map, refl, sym, ◌∙◌, ap, subst, arith, zero, suc}
use Rattle.std.specs.Prelude.{◌+◌, if◌then◌else◌, count_by, option_and_then, option_map}
use Rattle.std.specs.List.{cons_option, filter, filter_map, find, list_any, range_with_len, slice_get}
use Rattle.std.specs.Option.{option_map_or}
use Rattle.std.proofs.lemmas.Bool.{false≢true}
use Rattle.std.proofs.lemmas.List.Sums.{length-filter}
use Rattle.std.proofs.lemmas.Option.{slice_get_past}
use Rattle.nm_types.specs.declared.answers.Answer.TheVariants as answer
use Rattle.nm_types.specs.declared.messages.Arrival.{Arrival}
use Rattle.nm_types.specs.declared.scripts.Command.{Command}
use Rattle.nm_types.specs.declared.scripts.Command.TheVariants as command
use Rattle.nm_types.specs.declared.scripts.Line.{Line}
use Rattle.nm_types.specs.Commands.{Numbered, command_at, commands_of}
use Rattle.nm_types.specs.Sizes.{Sizes}
use Rattle.nm_history.specs.declared.events.Event.{Event}
use Rattle.nm_history.specs.declared.events.Happened.{Happened}
use Rattle.nm_history.specs.declared.events.Happened.TheVariants as event
use Rattle.nm_history.specs.declared.plain.Pair.{Pair}
use Rattle.nm_history.specs.Answers.{live}
use Rattle.nm_history.specs.Completion.{Request, is_taken, pair_of_receive, shown}
use Rattle.nm_history.specs.Completion.Request.{Receiving, Sending}
use Rattle.nm_history.specs.Happens.{happened, is_arrival, is_cancel, is_recall, is_withdraw}
use Rattle.nm_history.specs.Matching.{is_of_receive}
use Rattle.nm_history.specs.RankRun.{ran_lines}
use Rattle.nm_history.specs.Sends.{arrivals, envelope, sends}
use Rattle.nm_history.specs.Underway.{is_of_packet}
use Rattle.nm_match.specs.Deeds.{is_message}
use Rattle.nm_types.proofs.ListLemmas.{map_length}
use Rattle.nm_types.proofs.OptionLemmas.{mapped_none, mapped_some, no_some, same_some}
use Rattle.nm_report.specs.Told.{RankTold, Told, told_by}
use Rattle.nm_outcomes.specs.Logs.{Step, history_in}
use Rattle.nm_outcomes.specs.Moves.{is_free_in, may_show}
use Rattle.nm_outcomes.specs.Outcomes.{told_at}
use Rattle.nm_outcomes.specs.Rests.{AreAtRest as PlacesAreAtRest, IsHeldUp as IsPlaceHeldUp}
use Rattle.nm_outcomes.proofs.SentLemmas.{came_within}
use Rattle.nm_outcomes.specs.declared.spots.deeds.Deed.{Deed}
use Rattle.nm_outcomes.specs.declared.spots.deeds.Reply.TheVariants as reply
use Rattle.nm_outcomes.specs.Deeds.{happening}
use Rattle.nm_outcomes.specs.Looks.{IsSaid, is_answer_by, is_recall_by, is_send_by}
use Rattle.nm_outcomes.specs.RankStates.{Spot, free_lem}
use Rattle.nm_outcomes.proofs.SaidLemmas.{first_own, said}
use Rattle.nm_outcomes.proofs.SpotLemmas.{off_is}
use Rattle.nm_explored.specs.Successors.{answer_in, arrival_by, is_withdrawn_next, message_next, result_in, seen_at}
use Rattle.nm_explored.specs.Successors.{sent_at, shown_at}
use Rattle.nm_explored.specs.Lines.{line_in}
use Rattle.nm_explored.specs.Settings.{IsAt}
use Rattle.nm_explored.proofs.PlacedLemmas.{came_said, found_said, free_said, numbers_in, placed}
use Rattle.nm_explored.proofs.ResultLemmas.{ends}
use Rattle.nm_explored.proofs.SendLemmas.{sent_many}
use Rattle.nm_explored.specs.Ends.{told_in}
use Rattle.nm_explored.specs.Rests.{IsAtRest, IsHeldUp, is_waiting}

some_none : {X : Type 0} (x : X) → Some x ≡ None → ⊥
some_none x same = no_some x (sym same)

and_false : (b : Bool) → (b && false) ≡ false
and_false true = refl
and_false false = refl

-- what a list of deeds tells
pub told_map : (g : Deed → Happened) (ds : List Deed) →
    filter_map (λ d. told_by (g d)) ds ≡ filter_map told_by (map g ds)
told_map g [] = refl
told_map g (d ∷ ds) = ap (λ (ts : List Told). cons_option (told_by (g d)) ts) (told_map g ds)

pub no_told : (what : Happened) → is_of_packet what ≡ true → told_by what ≡ None
no_told (event.Ran line a) packet = absurd (false≢true packet)
no_told what packet = refl

module _ (shape : Sizes) (lines : List Line) (log : List Step) (v : ℕ → Option Spot) (i : ℕ) (spot : Spot)
    (at : IsAt shape lines log v i spot) (rest : PlacesAreAtRest shape lines (placed lines log)) where
  abbrev h : List Event
  h = history_in log i

  abbrev mine : List Numbered
  mine = commands_of i lines

  say : IsSaid lines h spot
  say = said lines h spot at.is

  no_result : (request : Request) (q : ℕ) → live mine h q ≡ Some request →
      may_show (placed lines log) i request ≡ None → result_in v i spot request ≡ None
  no_result (Receiving number) q here none =
      ap (λ (b : Bool). if b then Some reply.Cancelled
      else option_and_then (shown_at v i) (find (is_of_receive number) spot.pairs)) (off_is lines h spot at.is number)
      ∙ ap (λ (o : Option Pair). if happened (is_cancel number) h then Some reply.Cancelled
      else option_and_then (shown_at v i) o) (at.is.paired number)
      ∙ by_off (happened (is_cancel number) h) none
    where
      by_off : (b : Bool) →
          (if b then Some answer.Cancelled else option_map shown (pair_of_receive h number)) ≡ None →
          (if b then Some reply.Cancelled else option_and_then (shown_at v i) (pair_of_receive h number)) ≡ None
      by_off true none = absurd (some_none answer.Cancelled none)
      by_off false none =
          ap (λ (o : Option Pair). option_and_then (shown_at v i) o)
          (mapped_none shown (pair_of_receive h number) none)
  no_result (Sending to n) q here none =
      let low = by_line _ here in
      let o = at.stands to low in
      let there = history_in log to in
      ap (λ (x : Option Spot). option_and_then (λ other. sent_at spot other i to n) x) o.1
      ∙ ends _ (happened (is_withdraw i n true) there) _ ((placed lines log i).unasked to n) _ (is_taken there i n) _
      (happened (is_recall to n) h) _ (happened (is_arrival i n) there) _ (is_free_in (placed lines log to) i n)
      (o.2.withdrawn i n) (say.unasked to n) (o.2.taken i n) (say.recalled to n) (came_said lines there o.0 o.2 i n)
      (free_said lines there o.0 o.2 i n)
      ∙ by_ends (happened (is_withdraw i n true) there)
      (((placed lines log i).unasked to n || is_taken there i n)
      && (not (happened (is_recall to n) h)
      || (happened (is_arrival i n) there && not (is_free_in (placed lines log to) i n)))) none
    where
      by_line : (o : Option ℕ) → option_and_then (λ line. (placed lines log i).requests line) o ≡ Some (Sending to n) →
          to < shape.ranks
      by_line None live_is = absurd (no_some (Sending to n) live_is)
      by_line (Some line) live_is = at.within line to n live_is

      by_ends : (b c : Bool) → (if b then Some answer.Cancelled else if c then Some answer.Sent else None) ≡ None →
          (if b then Some reply.Cancelled else if c then Some reply.Sent else None) ≡ None
      by_ends true c none = absurd (some_none answer.Cancelled none)
      by_ends false true none = absurd (some_none answer.Sent none)
      by_ends false false none = refl

  held : IsHeldUp lines v i spot
  held line c place here =
      let found = mapped_some (λ (x : Numbered). x.line) (slice_get mine (count_by is_answer_by spot.deeds)) line
      place in
      let next : slice_get mine (length (ran_lines h)) ≡ Some found.0 =
      ap (λ (k : ℕ). slice_get mine k) (sym say.ran) ∙ found.1 in
      let same : found.0.command ≡ c =
      same_some found.0.command c
      (sym (at.stand (length (ran_lines h)) found.0 next) ∙ ap (λ (l : ℕ). command_at mine l) found.2 ∙ here) in
      by_command c (subst (λ (c : Command). IsPlaceHeldUp (placed lines log) i c) same
      (rest.waits i at.low found.0 next))
    where
      by_command : (c : Command) → IsPlaceHeldUp (placed lines log) i c →
          (is_waiting c ≡ true) × (answer_in v lines i spot line c ≡ None)
      by_command (command.Wait q) up = (
        refl,
        ap (λ (o : Option Request). option_map_or (result_in v i spot) o (Some reply.Null)) (say.live i q ∙ up.1)
            ∙ no_result up.0 q up.1 up.2,
      )
      by_command (command.Await from tag ctx) up = (
        refl,
        ap (λ (o : Option Arrival). option_map seen_at o) (found_said lines h spot at.is from tag ctx ∙ up),
      )
      by_command (command.Send to q tag ctx sync body) up = absurd up
      by_command (command.Recv q from tag ctx cap) up = absurd up
      by_command (command.Test q) up = absurd up
      by_command (command.Probe from tag ctx) up = absurd up
      by_command (command.Cancel q) up = absurd up
      by_command (command.Mprobe m from tag ctx) up = absurd up
      by_command (command.Mrecv q m cap) up = absurd up

  messages : (from : ℕ) → from < shape.ranks → message_next v i from ≡ None
  messages from low =
      let other = at.stands from low in
      let many : count_by (λ (b : Arrival). b.env.from == from) spot.came ≡ length (arrivals h from) =
      sym (length-filter (λ (b : Arrival). b.env.from == from) spot.came) ∙ at.is.came from in
      let sent : length (filter (is_send_by i) other.0.deeds) ≡ length (sends (history_in log from) i) =
      sent_many lines (history_in log from) other.0 other.2 i in
      let came : length (arrivals h from) ≡ length (sends (history_in log from) i) =
      rest.came from i low at.low ∙ map_length (envelope from) (sends (history_in log from) i) in
      let past : length (filter (is_send_by i) other.0.deeds) ≤ length (arrivals h from) =
      omega (arith, sent, came) in
      ap (λ (o : Option Spot). option_and_then (λ (spot : Spot). option_and_then (λ (other : Spot).
      let n = count_by (λ (b : Arrival). b.env.from == from) spot.came in
      option_and_then (arrival_by from n) (slice_get (filter (is_send_by i) other.deeds) n)) (v from)) o) at.here
      ∙ ap (λ (o : Option Spot). option_and_then (λ (other : Spot).
      let n = count_by (λ (b : Arrival). b.env.from == from) spot.came in
      option_and_then (arrival_by from n) (slice_get (filter (is_send_by i) other.deeds) n)) o) other.1
      ∙ ap (λ (n : ℕ). option_and_then (arrival_by from n) (slice_get (filter (is_send_by i) other.0.deeds) n)) many
      ∙ ap (λ (o : Option Deed). option_and_then (arrival_by from (length (arrivals h from))) o)
      (slice_get_past (filter (is_send_by i) other.0.deeds) (length (arrivals h from)) past)

  free : (from n : ℕ) → is_withdrawn_next v i from n ≡ false
  free from n =
      ap (λ (o : Option Spot). option_map_or (λ (spot : Spot). option_map_or (λ (other : Spot).
      list_any (is_message from n) spot.came
      && (free_lem spot from n && list_any (is_recall_by i n) other.deeds)) (v from) false) o false) at.here
      ∙ by_other (v from) refl
    where
      by_recall : (other : Spot) → v from ≡ Some other → from < shape.ranks → (b : Bool) →
          list_any (is_recall_by i n) other.deeds ≡ b → (free_lem spot from n && b) ≡ false
      by_recall other here low false is = and_false (free_lem spot from n)
      by_recall other here low true is =
          let s = at.stands from low in
          let same : other ≡ s.0 = same_some other s.0 (sym here ∙ s.1) in
          ap (λ (b : Bool). b && true)
          (free_said lines h spot at.is from n
          ∙ rest.recalls from i n low at.low
          (sym ((said lines (history_in log from) s.0 s.2).recalled i n)
          ∙ ap (λ (x : Spot). list_any (is_recall_by i n) x.deeds) (sym same) ∙ is))

      by_came : (other : Spot) → v from ≡ Some other → (b : Bool) → list_any (is_message from n) spot.came ≡ b →
          (b && (free_lem spot from n && list_any (is_recall_by i n) other.deeds)) ≡ false
      by_came other here false is = refl
      by_came other here true is =
          by_recall other here
          (came_within shape.ranks from n h (numbers_in shape lines log at.is_log i)
          (sym (came_said lines h spot at.is from n) ∙ is)) (list_any (is_recall_by i n) other.deeds) refl

      by_other : (o : Option Spot) → v from ≡ o →
          option_map_or (λ (other : Spot). list_any (is_message from n) spot.came
          && (free_lem spot from n && list_any (is_recall_by i n) other.deeds)) o false ≡ false
      by_other None here = refl
      by_other (Some other) here = by_came other here (list_any (is_message from n) spot.came) refl

  pub at_rest : IsAtRest shape.ranks lines v i
  at_rest = record {
    held = λ other here. subst (λ (x : Spot). IsHeldUp lines v i x) (same_some spot other (sym at.here ∙ here)) held;
    messages = messages;
    free = free;
  }

  pub told_here : told_in lines i spot ≡ told_at lines (placed lines log) i
  told_here =
      ap (λ (ts : List Told). record { answers = ts; waits = line_in lines i (count_by is_answer_by spot.deeds) })
      (told_map (happening lines) spot.deeds ∙ ap (λ (ws : List Happened). filter_map told_by ws) at.is.deeds
      ∙ sym (first_own told_by no_told h))
      ∙ ap (λ (k : ℕ). record { answers = filter_map (λ (e : Event). told_by e.what) h; waits = line_in lines i k })
      say.ran

-- what each rank of a range told
pub told_each : (f : ℕ → Option RankTold) (g : ℕ → RankTold) (a n : ℕ) →
    ((k : ℕ) → a ≤ k → k < a + n → f k ≡ Some (g k)) →
    filter_map f (range_with_len a n) ≡ map g (range_with_len a n)
told_each f g a zero each = refl
told_each f g a (suc n) each =
    let first : a < a + suc n = omega arith in
    let here : a ≤ a = omega arith in
    ap (λ (o : Option RankTold). cons_option o (filter_map f (range_with_len (a + 1) n))) (each a here first)
    ∙ ap (λ (ts : List RankTold). g a ∷ ts)
    (told_each f g (a + 1) n (λ k low high.
    let x : a ≤ k = omega (arith, low) in
    let y : k < a + suc n = omega (arith, high) in
    each k x y))
