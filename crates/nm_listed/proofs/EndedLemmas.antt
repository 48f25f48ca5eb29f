-- The result of a request may come next in the log, and the answer of a test that there is none yet.
use Rattle.std.proofs.Common.{◌≡◌, ◌⊎◌, inl, inr, ℕ, ◌<◌, ◌&&◌, ◌||◌, not, Bool, true, false}
use Rattle.std.proofs.Common.{Option, Some, None, List, [], ◌∷◌, length, map, refl, sym, ◌∙◌, ap, subst}
use Rattle.std.specs.Prelude.{if◌then◌else◌, option_and_then, unwrap_or}
use Rattle.std.specs.List.{find, list_any, slice_get}
use Rattle.std.specs.Option.{option_map_or}
use Rattle.std.proofs.lemmas.Bool.{false≢true}
use Rattle.nm_types.specs.declared.answers.Answer.{Answer}
use Rattle.nm_types.specs.declared.answers.Answer.TheVariants as answer
use Rattle.nm_types.specs.declared.scripts.Command.{Command}
use Rattle.nm_types.specs.declared.scripts.Command.TheVariants as command
use Rattle.nm_types.specs.declared.scripts.Line.{Line}
use Rattle.nm_types.specs.Commands.{Numbered, commands_of}
use Rattle.nm_types.specs.Limits.{IsScript}
use Rattle.nm_types.specs.Sizes.{Sizes}
use Rattle.nm_types.proofs.OptionLemmas.{no_some, same_some}
use Rattle.nm_types.proofs.TruthLemmas.{both}
use Rattle.nm_history.specs.declared.events.Event.{Event}
use Rattle.nm_history.specs.declared.events.Happened.{Happened}
use Rattle.nm_history.specs.declared.events.Happened.TheVariants as event
use Rattle.nm_history.specs.declared.plain.Pair.{Pair}
use Rattle.nm_history.specs.Answers.{answer_of, is_question_of, is_result, is_seen, is_started, line_of_name}
use Rattle.nm_history.specs.Answers.{live, request_at, without_bytes}
use Rattle.nm_history.specs.Completion.{Request, is_here, pair_of_receive, result_of, shown}
use Rattle.nm_history.specs.Completion.Request.{Receiving, Sending}
use Rattle.nm_history.specs.Delivery.{BodyAt, asked_pair, pair_of_request}
use Rattle.nm_history.specs.Happens.{happened, is_cancel, is_recall}
use Rattle.nm_history.specs.Matching.{is_of_message, is_of_receive}
use Rattle.nm_history.specs.RankRun.{CancelsFor, cancels_since, is_matched_probe, ran_lines, start_of}
use Rattle.nm_history.specs.RankRun.{starts_since, without_number}
use Rattle.nm_history.specs.Sends.{sends}
use Rattle.nm_history.proofs.OnceLemmas.{eqb_self}
use Rattle.nm_history.proofs.ResultLemmas.{bytes_no_matter, result_is_result}
use Rattle.nm_match.specs.Deeds.{is_message}
use Rattle.nm_outcomes.specs.Logs.{Step, history_in}
use Rattle.nm_outcomes.specs.Paths.{AreCommands}
use Rattle.nm_outcomes.specs.RankStates.{IsSpotOf, Spot, free_lem, is_cancel_by, is_that}
use Rattle.nm_outcomes.specs.declared.spots.deeds.Reply.{Reply}
use Rattle.nm_outcomes.specs.declared.spots.deeds.Reply.TheVariants as reply
use Rattle.nm_outcomes.specs.Deeds.{answer_meant}
use Rattle.nm_outcomes.specs.Looks.{IsSaid, is_recall_by, is_unasked_by, live_in}
use Rattle.nm_outcomes.proofs.SaidLemmas.{said}
use Rattle.nm_outcomes.proofs.SpotLemmas.{off_is}
use Rattle.nm_explored.specs.Successors.{may_be_open, result_in, sent_at, shown_at}
use Rattle.nm_explored.specs.Settings.{IsAt}
use Rattle.nm_listed.specs.Tellings.{before_answer, before_result, before_sent, name_asked, request_asked, with_whole}
use Rattle.nm_listed.proofs.AnswerLemmas.{Goal, IsRight, plain_now, ran_now, shown_right}
use Rattle.nm_listed.proofs.HushLemmas.{IsHushed}
use Rattle.nm_listed.proofs.ReachLemmas.{IsReached, is_at}
use Rattle.nm_listed.proofs.ResultLemmas.{IsReady, receive_cancelled, receive_whole, send_left}
use Rattle.nm_listed.proofs.ResultLemmas.{send_recalled}
use Rattle.nm_listed.proofs.ResultLemmas.{send_withdrawn}
use Rattle.nm_listed.proofs.SteadyLemmas.{Begins, IsBegun, IsIdle}
use Rattle.nm_listed.proofs.TellLemmas.{IsTold}

-- the line that a name stands for
named_line : {X : Type 0} (f : ℕ → Option X) (o : Option ℕ) (x : X) → option_and_then f o ≡ Some x →
    (line : ℕ) × (o ≡ Some line) × (f line ≡ Some x)
named_line f None x is = absurd (no_some x is)
named_line f (Some line) x is = (line, refl, is)

-- a command that asks for the result of a name
abbrev Asks : ℕ → Command → Type 0
Asks q c = (c ≡ command.Wait q) ⊎ (c ≡ command.Test q)

module _ (shape : Sizes) (lines : List Line) (commands : AreCommands shape.ranks lines)
    (script : IsScript shape.ranks lines) (states : List Spot) (i : ℕ) (low : i < shape.ranks) (spot : Spot)
    (here : slice_get states i ≡ Some spot) where
  abbrev mine : List Numbered
  mine = commands_of i lines

  abbrev After : List Step → ℕ → Reply → Type 0
  After log line r =
      Goal shape lines commands script states i low spot here (before_answer lines log i spot line r) line r

  abbrev Right : List Step → ℕ → Command → Answer → Type 0
  Right log line c a = IsRight shape lines commands script states i low spot here log line c a

  abbrev Ready : List Step → Request → Option Answer → Type 0
  Ready log r a = IsReady shape lines commands script states i low spot here log r a

  at_log : (log : List Step) → IsTold shape lines log states → IsAt shape lines log (λ k. slice_get states k) i spot
  at_log log told = is_at shape lines commands script log states told i low spot here

  say_log : (log : List Step) → IsTold shape lines log states → IsSaid lines (history_in log i) spot
  say_log log told = said lines (history_in log i) spot (at_log log told).is

  -- what the state tells is the same after each log that tells of it
  live_at : (log later : List Step) → IsTold shape lines log states → IsTold shape lines later states → (q : ℕ) →
      live mine (history_in later i) q ≡ live mine (history_in log i) q
  live_at log later told told2 q = sym ((say_log later told2).live i q) ∙ (say_log log told).live i q

  next_at : (log later : List Step) → IsTold shape lines log states → IsTold shape lines later states →
      length (ran_lines (history_in later i)) ≡ length (ran_lines (history_in log i))
  next_at log later told told2 = sym (say_log later told2).ran ∙ (say_log log told).ran

  -- a command that asks has begun nothing
  idle_of : (log : List Step) (told : IsTold shape lines log states) (x : Numbered) →
      slice_get mine (length (ran_lines (history_in log i))) ≡ Some x → (q : ℕ) → Asks q x.command →
      IsIdle (history_in log i)
  idle_of log told x next q asks = by_stage (told.steady i).stage
    where
      never : (c : Command) (line : ℕ) (last : Happened) → Asks q c →
          Begins shape.eager mine (history_in log i) line c last → ⊥
      never c line last (inl is) begun =
          subst (λ (c : Command). Begins shape.eager mine (history_in log i) line c last) is begun
      never c line last (inr is) begun =
          subst (λ (c : Command). Begins shape.eager mine (history_in log i) line c last) is begun

      by_stage : IsIdle (history_in log i) ⊎ IsBegun shape.eager mine (history_in log i) → IsIdle (history_in log i)
      by_stage (inl idle) = idle
      by_stage (inr b) =
          let same : b.command ≡ x = same_some b.command x (sym b.next ∙ next) in
          absurd (never x.command b.command.line b.last asks
          (subst (λ (y : Numbered). Begins shape.eager mine (history_in log i) b.command.line y.command b.last) same
          b.begun))

  -- the result that the log is ready for
  module _ (x : Numbered) (q : ℕ) (asks : Asks q x.command) (log : List Step)
      (reached : IsReached shape lines log states)
      (next : slice_get mine (length (ran_lines (history_in log i))) ≡ Some x) where
    abbrev h : List Event
    h = history_in log i

    result_right : (g : List Event) (request : Request) (a : Answer) → live mine g q ≡ Some request →
        result_of g request ≡ Some a → answer_of mine g x.line x.command ≡ Some a
    result_right g request a live_is result = by_command asks
      where
        by_command : Asks q x.command → answer_of mine g x.line x.command ≡ Some a
        by_command (inl is) =
            ap (λ (c : Command). answer_of mine g x.line c) is
            ∙ ap (λ (o : Option Request). option_map_or (result_of g) o (Some answer.Null)) live_is ∙ result
        by_command (inr is) =
            ap (λ (c : Command). answer_of mine g x.line c) is
            ∙ ap (λ (o : Option Request). Some (option_map_or
            (λ request. unwrap_or (result_of g request) answer.No) o answer.Null)) live_is
            ∙ ap (λ (o : Option Answer). Some (unwrap_or o answer.No)) result

    asked_right : (g : List Event) (request : Request) → live mine g q ≡ Some request →
        asked_pair mine g x.command ≡ pair_of_request g request
    asked_right g request live_is = by_command asks
      where
        by_command : Asks q x.command → asked_pair mine g x.command ≡ pair_of_request g request
        by_command (inl is) =
            ap (λ (c : Command). asked_pair mine g c) is
            ∙ ap (λ (o : Option Request). option_and_then (pair_of_request g) o) live_is
        by_command (inr is) =
            ap (λ (c : Command). asked_pair mine g c) is
            ∙ ap (λ (o : Option Request). option_and_then (pair_of_request g) o) live_is

    is_question : is_question_of q x.command ≡ true
    is_question = by_command asks
      where
        by_command : Asks q x.command → is_question_of q x.command ≡ true
        by_command (inl is) = ap (λ (c : Command). is_question_of q c) is ∙ eqb_self q
        by_command (inr is) = ap (λ (c : Command). is_question_of q c) is ∙ eqb_self q

    no_probe : is_matched_probe x.command ≡ false
    no_probe = by_command asks
      where
        by_command : Asks q x.command → is_matched_probe x.command ≡ false
        by_command (inl is) = ap (λ (c : Command). is_matched_probe c) is
        by_command (inr is) = ap (λ (c : Command). is_matched_probe c) is

    cancels_right : (g : List Event) → cancels_since g ≡ [] → CancelsFor mine g x.command
    cancels_right g none = by_command asks
      where
        by_command : Asks q x.command → CancelsFor mine g x.command
        by_command (inl is) = subst (λ (c : Command). CancelsFor mine g c) (sym is) none
        by_command (inr is) = subst (λ (c : Command). CancelsFor mine g c) (sym is) none

    starts_right : (g : List Event) (b : Bool) → starts_since g ≡ [] → map without_number (starts_since g)
        ≡ (if b then start_of shape.eager mine g x.line x.command else [])
    starts_right g b none = ap (λ (ws : List Happened). map without_number ws) none ∙ by_test b asks
      where
        by_test : (b : Bool) → Asks q x.command → [] ≡ (if b then start_of shape.eager mine g x.line x.command else [])
        by_test false asks = refl
        by_test true (inl is) = ap (λ (c : Command). start_of shape.eager mine g x.line c) (sym is)
        by_test true (inr is) = ap (λ (c : Command). start_of shape.eager mine g x.line c) (sym is)

    right_at : (later : List Step) (told : IsTold shape lines later states) (a : Answer) →
        IsIdle (history_in later i) →
        answer_of mine (history_in later i) x.line x.command ≡ Some (without_bytes a) →
        ((k : ℕ) → k < shape.ranks → BodyAt k (commands_of k lines) (sends (history_in later k) i) mine
        (history_in later i) (event.Ran x.line a)) → Right later x.line x.command a
    right_at later told a idle right body = record {
      right = right;
      starts = starts_right (history_in later i) (is_started a) idle.starts;
      cancels = cancels_right (history_in later i) idle.cancels;
      claims = idle.claims ∙ ap (λ (b : Bool). if b && is_seen a then x.line ∷ [] else []) (sym no_probe);
      body = body;
    }

    -- the command asks for the live request
    asked_is : request_asked lines i spot x.line ≡ live mine h q
    asked_is =
        ap (λ (o : Option Command). option_and_then (λ c. option_and_then (live_in lines i spot.deeds) (name_asked c))
        o)
        (commands.stand i (length (ran_lines h)) x next)
        ∙ by_command asks ∙ (say_log log reached.told).live i q
      where
        by_command : Asks q x.command →
            option_and_then (live_in lines i spot.deeds) (name_asked x.command) ≡ live_in lines i spot.deeds q
        by_command (inl is) =
            ap (λ (c : Command). option_and_then (live_in lines i spot.deeds) (name_asked c)) is
        by_command (inr is) =
            ap (λ (c : Command). option_and_then (live_in lines i spot.deeds) (name_asked c)) is

    before_is : (request : Request) (r : Reply) → live mine h q ≡ Some request →
        is_result (answer_meant lines r) ≡ true →
        before_answer lines log i spot x.line r ≡ before_result log i spot request
    before_is request r live_is result =
        ap (λ (b : Bool). if b
        then option_map_or (before_result log i spot) (request_asked lines i spot x.line) log else log) result
        ∙ ap (λ (o : Option Request). option_map_or (before_result log i spot) o log) (asked_is ∙ live_is)

    finish : (later : List Step) (request : Request) (r : Reply) → later ≡ before_result log i spot request →
        live mine h q ≡ Some request → Ready later request (Some (without_bytes (answer_meant lines r))) →
        ((told : IsTold shape lines later states) → (k : ℕ) → k < shape.ranks → BodyAt k (commands_of k lines)
        (sends (history_in later k) i) mine (history_in later i) (event.Ran x.line (answer_meant lines r))) →
        After log x.line r
    finish later request r later_is live_is ready body =
        let told = ready.told in
        let next2 : slice_get mine (length (ran_lines (history_in later i))) ≡ Some x =
        ap (λ (k : ℕ). slice_get mine k) (next_at log later reached.told told) ∙ next in
        let live2 : live mine (history_in later i) q ≡ Some request =
        live_at log later reached.told told q ∙ live_is in
        let name = named_line (request_at (history_in later i)) (line_of_name mine (history_in later i) q) request
        live2 in
        let is_one : is_result (answer_meant lines r) ≡ true =
        sym (bytes_no_matter (answer_meant lines r))
        ∙ result_is_result (history_in later i) request (without_bytes (answer_meant lines r)) ready.result in
        subst (λ (l : List Step). Goal shape lines commands script states i low spot here l x.line r)
        (later_is ∙ sym (before_is request r live_is is_one))
        (ran_now shape lines commands script states i low spot here later told (Some request) ready.hushed x next2 r
        (right_at later told (answer_meant lines r) (idle_of later told x next2 q asks)
        (result_right (history_in later i) request (without_bytes (answer_meant lines r)) live2 ready.result)
        (body told))
        (λ other same. (
          q,
          name.0,
          name.1,
          name.2 ∙ ap (λ (r : Request). Some r) (same_some request other same),
          both (is_question_of q x.command) (is_result (answer_meant lines r)) is_question is_one,
        )))

    -- nothing was marked of a request that is live
    hushed_at : (later : List Step) → IsReached shape lines later states → (request : Request) →
        live mine (history_in later i) q ≡ Some request → IsHushed (history_in later i) request
    hushed_at later reached2 request live_is =
        let name = named_line (request_at (history_in later i)) (line_of_name mine (history_in later i) q) request
        live_is in
        (reached2.hushed i).requests name.0 (inl (q, name.1)) request name.2 (λ is. no_some request is)

    receive_ends : (number : ℕ) → live mine h q ≡ Some (Receiving number) → (r : Reply) →
        result_in (λ k. slice_get states k) i spot (Receiving number) ≡ Some r → After log x.line r
    receive_ends number live_is r so =
        by_off (list_any (is_cancel_by number) spot.deeds) (off_is lines h spot (at_log log reached.told).is number) so
      where
        by_pair : happened (is_cancel number) h ≡ false → (o : Option Pair) →
            find (is_of_receive number) spot.pairs ≡ o →
            option_and_then (shown_at (λ k. slice_get states k) i) o ≡ Some r → After log x.line r
        by_pair kept None found so = absurd (no_some r so)
        by_pair kept (Some pair) found so =
            let was : pair_of_receive h number ≡ Some pair =
            sym ((at_log log reached.told).is.paired number) ∙ found in
            let ready = receive_whole shape lines commands script states i low spot here log reached number pair was
            (hushed_at log reached (Receiving number) live_is pair was) kept in
            let later : List Step = with_whole log i pair.arrival.env.from pair.arrival.n in
            let told2 = ready.told in
            let found2 : pair_of_receive (history_in later i) number ≡ Some pair =
            sym ((at_log later told2).is.paired number) ∙ found in
            let right = shown_right shape lines commands script states i low spot here later told2 number pair
            found2 r so in
            let live2 : live mine (history_in later i) q ≡ Some (Receiving number) =
            live_at log later reached.told told2 q ∙ live_is in
            finish later (Receiving number) r
            (sym (got_is (list_any (is_cancel_by number) spot.deeds)
            (off_is lines h spot (at_log log reached.told).is number ∙ kept) (find (is_of_receive number) spot.pairs)
            found))
            live_is
            (record {
              told = told2;
              hushed = ready.hushed;
              result = ready.result ∙ ap (λ (a : Answer). Some a) right.0;
            })
            (λ told.
            right.1 x.line x.command
            (commands.stand i (length (ran_lines h)) x next)
            (asked_right (history_in later i) (Receiving number) live2 ∙ found2))
          where
            got_is : (b : Bool) → b ≡ false → (o : Option Pair) → o ≡ Some pair →
                (if b then log
                else option_map_or (λ (pair : Pair). with_whole log i pair.arrival.env.from pair.arrival.n) o log)
                ≡ with_whole log i pair.arrival.env.from pair.arrival.n
            got_is b off o found = rw (off, found) refl

        off_log : (b : Bool) → b ≡ true →
            (if b then log
            else option_map_or (λ (pair : Pair). with_whole log i pair.arrival.env.from pair.arrival.n)
            (find (is_of_receive number) spot.pairs) log) ≡ log
        off_log b off = rw off refl

        by_off : (b : Bool) → b ≡ happened (is_cancel number) h →
            (if b then Some reply.Cancelled
            else option_and_then (shown_at (λ k. slice_get states k) i) (find (is_of_receive number) spot.pairs))
            ≡ Some r →
            After log x.line r
        by_off true off so =
            subst (λ (r : Reply). After log x.line r) (same_some reply.Cancelled r so)
            (finish log (Receiving number) reply.Cancelled
            (sym (off_log (list_any (is_cancel_by number) spot.deeds)
            (off_is lines h spot (at_log log reached.told).is number ∙ sym off)))
            live_is
            (receive_cancelled shape lines commands script states i low spot here log reached number (sym off))
            (λ told k low. tt))
        by_off false off so = by_pair (sym off) (find (is_of_receive number) spot.pairs) refl so

    send_ends : (to n : ℕ) → live mine h q ≡ Some (Sending to n) → (r : Reply) →
        result_in (λ k. slice_get states k) i spot (Sending to n) ≡ Some r → After log x.line r
    send_ends to n live_is r so =
        by_flags (list_any (is_that i n) other.0.withdrawn) refl
        (list_any (is_unasked_by to n) spot.deeds || list_any (is_of_message i n) other.0.pairs) refl
        (list_any (is_recall_by to n) spot.deeds) refl
        (list_any (is_message i n) other.0.came && not (free_lem other.0 i n)) refl
        (sym (ap (λ (o : Option Spot). option_and_then (λ other. sent_at spot other i to n) o) other.1) ∙ so)
      where
        name : (line : ℕ) × (line_of_name mine h q ≡ Some line) × (request_at h line ≡ Some (Sending to n))
        name = named_line (request_at h) (line_of_name mine h q) (Sending to n) live_is

        below : to < shape.ranks
        below = (at_log log reached.told).within name.0 to n name.2

        other : (x : Spot) × (slice_get states to ≡ Some x) × IsSpotOf lines (history_in log to) x
        other = reached.told.stands to below

        hush : IsHushed h (Sending to n)
        hush = hushed_at log reached (Sending to n) live_is

        by_flags : (w : Bool) → list_any (is_that i n) other.0.withdrawn ≡ w → (l : Bool) →
            (list_any (is_unasked_by to n) spot.deeds || list_any (is_of_message i n) other.0.pairs) ≡ l → (c : Bool) →
            list_any (is_recall_by to n) spot.deeds ≡ c → (p : Bool) →
            (list_any (is_message i n) other.0.came && not (free_lem other.0 i n)) ≡ p →
            (if w then Some reply.Cancelled else if l && (not c || p) then Some reply.Sent else None) ≡ Some r →
            After log x.line r
        by_flags true gone l left c recall p past so =
            let ready = send_withdrawn shape lines commands script states i low spot here to n below other.0 other.1 log
            reached hush gone in
            subst (λ (r : Reply). After log x.line r) (same_some reply.Cancelled r so)
            (finish (before_sent log i to n) (Sending to n) reply.Cancelled refl live_is ready (λ told k low. tt))
        by_flags false gone true left false recall p past so =
            let ready = send_left shape lines commands script states i low spot here to n below other.0 other.1 log
            reached
            name.0 name.2 hush left recall gone in
            subst (λ (r : Reply). After log x.line r) (same_some reply.Sent r so)
            (finish (before_sent log i to n) (Sending to n) reply.Sent refl live_is ready (λ told k low. tt))
        by_flags false gone true left true recall true past so =
            let ready = send_recalled shape lines commands script states i low spot here to n below other.0 other.1 log
            reached q live_is (λ later reached2 live2. hushed_at later reached2 (Sending to n) live2) left recall gone
            past in
            subst (λ (r : Reply). After log x.line r) (same_some reply.Sent r so)
            (finish (before_sent log i to n) (Sending to n) reply.Sent refl live_is ready (λ told k low. tt))
        by_flags false gone true left true recall false past so = absurd (no_some r so)
        by_flags false gone false left c recall p past so = absurd (no_some r so)

    -- a wait or a test of a name
    pub asked_now : (r : Reply) →
        option_map_or (result_in (λ k. slice_get states k) i spot) (live_in lines i spot.deeds q) (Some reply.Null)
        ≡ Some r →
        After log x.line r
    asked_now r so =
        by_live (live mine h q) refl
        (sym (ap (λ (o : Option Request). option_map_or (result_in (λ k. slice_get states k) i spot) o
        (Some reply.Null)) ((say_log log reached.told).live i q)) ∙ so)
      where
        null_right : live mine h q ≡ None → Asks q x.command → answer_of mine h x.line x.command ≡ Some answer.Null
        null_right live_is (inl is) =
            ap (λ (c : Command). answer_of mine h x.line c) is
            ∙ ap (λ (o : Option Request). option_map_or (result_of h) o (Some answer.Null)) live_is
        null_right live_is (inr is) =
            ap (λ (c : Command). answer_of mine h x.line c) is
            ∙ ap (λ (o : Option Request). Some (option_map_or
            (λ request. unwrap_or (result_of h request) answer.No) o answer.Null)) live_is

        by_live : (o : Option Request) → live mine h q ≡ o →
            option_map_or (result_in (λ k. slice_get states k) i spot) o (Some reply.Null) ≡ Some r → After log x.line r
        by_live None live_is so =
            subst (λ (r : Reply). After log x.line r) (same_some reply.Null r so)
            (plain_now shape lines commands script states i low spot here log reached x next reply.Null
            (right_at log reached.told answer.Null (idle_of log reached.told x next q asks) (null_right live_is asks)
            (λ k low. tt)))
        by_live (Some (Receiving number)) live_is so = receive_ends number live_is r so
        by_live (Some (Sending to n)) live_is so = send_ends to n live_is r so

    -- a test of a request that is not complete
    no_result : (request : Request) → IsHushed h request → may_be_open spot request ≡ true → result_of h request ≡ None
    no_result (Sending to n) hush open' = rw (hush.0, hush.1, hush.2) (by_recall (happened (is_recall to n) h))
      where
        by_recall : (b : Bool) → (if (if b then false || (false && false) else false) then Some answer.Sent else None)
            ≡ None
        by_recall true = refl
        by_recall false = refl
    no_result (Receiving number) hush open' =
        ap (λ (b : Bool). if b then Some answer.Cancelled
        else option_and_then (λ pair. if is_here h pair then Some (shown pair) else None) (pair_of_receive h number))
        (sym (off_is lines h spot (at_log log reached.told).is number)
        ∙ not_off (list_any (is_cancel_by number) spot.deeds) open')
        ∙ by_pair (pair_of_receive h number) refl
      where
        not_off : (b : Bool) → not b ≡ true → b ≡ false
        not_off false is = refl
        not_off true is = absurd (false≢true is)

        by_pair : (o : Option Pair) → pair_of_receive h number ≡ o →
            option_and_then (λ pair. if is_here h pair then Some (shown pair) else None) o ≡ None
        by_pair None found = refl
        by_pair (Some pair) found = ap (λ (b : Bool). if b then Some (shown pair) else None) (hush pair found)

    pub no_now : x.command ≡ command.Test q →
        option_map_or (may_be_open spot) (live_in lines i spot.deeds q) false ≡ true → After log x.line reply.No
    no_now is open' =
        by_live (live mine h q) refl
        (sym (ap (λ (o : Option Request). option_map_or (may_be_open spot) o false)
        ((say_log log reached.told).live i q)) ∙ open')
      where
        by_live : (o : Option Request) → live mine h q ≡ o → option_map_or (may_be_open spot) o false ≡ true →
            After log x.line reply.No
        by_live None live_is open' = absurd (false≢true open')
        by_live (Some request) live_is open' =
            plain_now shape lines commands script states i low spot here log reached x next reply.No
            (right_at log reached.told answer.No (idle_of log reached.told x next q asks)
            (ap (λ (c : Command). answer_of mine h x.line c) is
            ∙ ap (λ (o : Option Request). Some (option_map_or
            (λ request. unwrap_or (result_of h request) answer.No) o answer.Null)) live_is
            ∙ ap (λ (o : Option Answer). Some (unwrap_or o answer.No))
            (no_result request (hushed_at log reached request live_is) open'))
            (λ k low. tt))
