-- An answer that has a message's bytes shows a paired message, whose sender is a rank of the run.
use Rattle.std.proofs.Common.{◌≡◌, ℕ, ◌<◌, Bool, true, false, cond, Option, Some, None, List, [], ◌∷◌, ◌++◌}
use Rattle.std.proofs.Common.{refl, sym, ◌∙◌, ap}
use Rattle.std.specs.Prelude.{Contains, IsSomeAnd, option_map, unwrap_or}
use Rattle.std.specs.List.{All, cons_option, filter_map}
use Rattle.std.specs.Option.{option_and_then, option_map_or}
use Rattle.std.proofs.lemmas.Bool.{false≢true}
use Rattle.std.proofs.lemmas.List.Elements.{All-cons, All-nil}
use Rattle.nm_types.specs.declared.answers.Answer.{Answer}
use Rattle.nm_types.specs.declared.answers.Answer.TheVariants as answer
use Rattle.nm_types.specs.declared.messages.Arrival.{Arrival}
use Rattle.nm_types.specs.declared.scripts.Command.{Command}
use Rattle.nm_types.specs.declared.scripts.Command.TheVariants as command
use Rattle.nm_types.specs.Commands.{Numbered, command_at}
use Rattle.nm_history.specs.declared.events.Event.{Event}
use Rattle.nm_history.specs.declared.events.Happened.{Happened}
use Rattle.nm_history.specs.declared.events.Happened.TheVariants.{Arrive, Ran}
use Rattle.nm_history.specs.declared.plain.Pair.{Pair}
use Rattle.nm_history.specs.Answers.{answer_of, cancel_answer, live, seen, without_bytes}
use Rattle.nm_history.specs.AtEach.{AtEach, AtEachAfter}
use Rattle.nm_history.specs.Completion.{Request, is_here, pair_of_receive, result_of, shown}
use Rattle.nm_history.specs.Completion.Request.{Sending, Receiving}
use Rattle.nm_history.specs.Delivery.{asked_pair, pair_of_request}
use Rattle.nm_history.specs.Matching.{matched_pairs}
use Rattle.nm_history.specs.RankRun.{Always, AnswerAt, NumberAt}
use Rattle.nm_history.specs.Sends.{arrival_of, messages}
use Rattle.nm_history.proofs.SelectionLemmas.{find_contains}
use Rattle.nm_report.specs.Summary.{is_got}

-- an answer that is there has a message's bytes
abbrev got : Option Answer → Bool
got None = false
got (Some a) = is_got a

-- the command asks for a receive that is paired
pub record AsksFor (commands : List Numbered) (h : List Event) (c : Command) : Type 0 where
  pub pair : Pair
  pub asked : asked_pair commands h c ≡ Some pair
  pub paired : Contains (matched_pairs h) pair

-- the same of a request
record IsPaired (h : List Event) (request : Option Request) : Type 0 where
  pair : Pair
  asked : option_and_then (pair_of_request h) request ≡ Some pair
  paired : Contains (matched_pairs h) pair

either : (b : Bool) (x y : Answer) → is_got x ≡ false → is_got y ≡ false → is_got (cond b x y) ≡ false
either true x y one two = one
either false x y one two = two

not_got : {P : Type 0} (o : Option Answer) → got o ≡ false → got o ≡ true → P
not_got o silent shows = absurd (false≢true (sym silent ∙ shows))

no_cancel_got : (h : List Event) (o : Option Request)
    → is_got (option_map_or (cancel_answer h) o answer.Null) ≡ false
no_cancel_got h None = refl
no_cancel_got h (Some (Sending to n)) = refl
no_cancel_got h (Some (Receiving number)) = either _ answer.Late answer.Done refl refl

no_probe_got : (o : Option Arrival) → is_got (option_map_or seen o answer.Nothing) ≡ false
no_probe_got None = refl
no_probe_got (Some a) = refl

no_await_got : (o : Option Arrival) → got (option_map seen o) ≡ false
no_await_got None = refl
no_await_got (Some a) = refl

no_mprobe_got : (b c : Bool) (o : Option Arrival)
    → got (cond b (Some answer.Busy) (option_map_or (λ a. Some (seen a)) o (cond c None (Some answer.Nothing))))
    ≡ false
no_mprobe_got true c o = refl
no_mprobe_got false c (Some a) = refl
no_mprobe_got false true None = refl
no_mprobe_got false false None = refl

no_mrecv_got : (b c : Bool) → is_got (cond b answer.Busy (cond c answer.Started answer.Null)) ≡ false
no_mrecv_got b c = either b answer.Busy (cond c answer.Started answer.Null) refl
    (either c answer.Started answer.Null refl refl)

-- the result of a send has no bytes
no_sent_got : (b c : Bool) → got (cond b (Some (cond c answer.Cancelled answer.Sent)) None) ≡ false
no_sent_got true c = either c answer.Cancelled answer.Sent refl refl
no_sent_got false c = refl

-- the result of a receive has them where it is paired
paired_got : (h : List Event) (b : Bool) (o : Option Pair)
    → got (cond b (Some answer.Cancelled)
    (option_and_then (λ pair. cond (is_here h pair) (Some (shown pair)) None) o)) ≡ true
    → (pair : Pair) × (o ≡ Some pair)
paired_got h true o shows = absurd (false≢true shows)
paired_got h false None shows = absurd (false≢true shows)
paired_got h false (Some pair) shows = (pair, refl)

result_got : (h : List Event) (request : Request) → got (result_of h request) ≡ true → IsPaired h (Some request)
result_got h (Sending to n) shows = not_got (result_of h (Sending to n)) (no_sent_got _ _) shows
result_got h (Receiving number) shows =
    let found = paired_got h _ (pair_of_receive h number) shows in
    record { pair = found.0; asked = found.1; paired = find_contains _ (matched_pairs h) found.0 found.1 }

wait_got : (h : List Event) (o : Option Request)
    → got (option_map_or (result_of h) o (Some answer.Null)) ≡ true → IsPaired h o
wait_got h None shows = absurd (false≢true shows)
wait_got h (Some request) shows = result_got h request shows

or_no : (o : Option Answer) → is_got (unwrap_or o answer.No) ≡ true → got o ≡ true
or_no None shows = shows
or_no (Some a) shows = shows

test_got : (h : List Event) (o : Option Request)
    → is_got (option_map_or (λ request. unwrap_or (result_of h request) answer.No) o answer.Null) ≡ true
    → IsPaired h o
test_got h None shows = absurd (false≢true shows)
test_got h (Some request) shows = result_got h request (or_no (result_of h request) shows)

got_asked : (commands : List Numbered) (h : List Event) (line : ℕ) (c : Command)
    → got (answer_of commands h line c) ≡ true → AsksFor commands h c
got_asked commands h line (command.Send to q tag ctx sync body) shows =
    not_got (answer_of commands h line (command.Send to q tag ctx sync body))
    (either _ answer.Busy answer.Started refl refl) shows
got_asked commands h line (command.Recv q from tag ctx cap) shows =
    not_got (answer_of commands h line (command.Recv q from tag ctx cap))
    (either _ answer.Busy answer.Started refl refl) shows
got_asked commands h line (command.Wait q) shows =
    let is = wait_got h (live commands h q) shows in
    record { pair = is.pair; asked = is.asked; paired = is.paired }
got_asked commands h line (command.Test q) shows =
    let is = test_got h (live commands h q) shows in
    record { pair = is.pair; asked = is.asked; paired = is.paired }
got_asked commands h line (command.Probe from tag ctx) shows =
    not_got (answer_of commands h line (command.Probe from tag ctx)) (no_probe_got _) shows
got_asked commands h line (command.Await from tag ctx) shows =
    not_got (answer_of commands h line (command.Await from tag ctx)) (no_await_got _) shows
got_asked commands h line (command.Cancel q) shows =
    not_got (answer_of commands h line (command.Cancel q)) (no_cancel_got h _) shows
got_asked commands h line (command.Mprobe m from tag ctx) shows =
    not_got (answer_of commands h line (command.Mprobe m from tag ctx)) (no_mprobe_got _ _ _) shows
got_asked commands h line (command.Mrecv q m cap) shows =
    not_got (answer_of commands h line (command.Mrecv q m cap)) (no_mrecv_got _ _) shows

-- the command of a line asks for a receive that is paired
pub record ShowsPair (commands : List Numbered) (h : List Event) (line : ℕ) : Type 0 where
  pub command : Command
  pub at_line : command_at commands line ≡ Some command
  pub asks : AsksFor commands h command

pub got_shown : (commands : List Numbered) (h : List Event) (line from tag : ℕ) (body : List ℕ)
    → AnswerAt commands h (Ran line (answer.Got from tag body)) → ShowsPair commands h line
got_shown commands h line from tag body right = by_command (command_at commands line) refl right
  where
    by_command : (o : Option Command) → command_at commands line ≡ o
        → IsSomeAnd o (λ c. answer_of commands h line c ≡ Some (without_bytes (answer.Got from tag body)))
        → ShowsPair commands h line
    by_command None at_line right = absurd right
    by_command (Some c) at_line right =
        record { command = c; at_line = at_line; asks = got_asked commands h line c (ap got right) }

-- each message is one of a rank of the run
low_arrival : (ranks : ℕ) (before : List Event) (what : Happened) (rest : List Arrival) → NumberAt ranks before what
    → All (λ a. a.env.from < ranks) rest → All (λ a. a.env.from < ranks) (cons_option (arrival_of what) rest)
low_arrival ranks before (Arrive a) rest number each = All-cons (λ a. a.env.from < ranks) a rest number.0 each
low_arrival ranks before what rest number each = each

low_after : (ranks : ℕ) (before events : List Event) → AtEachAfter (λ b e. NumberAt ranks b e.what) before events
    → All (λ a. a.env.from < ranks) (filter_map (λ e. arrival_of e.what) events)
low_after ranks before [] numbers = All-nil (λ a. a.env.from < ranks)
low_after ranks before (e ∷ events) numbers =
    low_arrival ranks before e.what _ numbers.0 (low_after ranks (before ++ e ∷ []) events numbers.1)

pub low_senders : (ranks : ℕ) (h : List Event) → Always (NumberAt ranks) h → All (λ a. a.env.from < ranks) (messages h)
unfolding AtEach
low_senders ranks h numbers = low_after ranks [] h numbers
