-- A result that shows a message is of one that is here, and each send has its command.
use Rattle.std.proofs.Common.{◌≡◌, ℕ, Bool, true, false, cond, Option, Some, None, List, [], ◌∷◌, ◌++◌, map, refl}
use Rattle.std.proofs.Common.{sym, ◌∙◌, ap, subst, append_assoc, append-nil}
use Rattle.std.specs.Prelude.{IsSomeAnd, option_and_then, unwrap_or}
use Rattle.std.specs.Option.{option_map_or}
use Rattle.std.specs.List.{AllByRecursion, filter}
use Rattle.std.proofs.lemmas.List.Elements.{filter-append}
use Rattle.nm_types.specs.declared.answers.Answer.{Answer}
use Rattle.nm_types.specs.declared.answers.Answer.TheVariants as answer
use Rattle.nm_types.specs.declared.scripts.Command.{Command}
use Rattle.nm_types.specs.declared.scripts.Command.TheVariants as command
use Rattle.nm_types.specs.Commands.{Numbered, command_at}
use Rattle.nm_history.specs.declared.events.Event.{Event}
use Rattle.nm_history.specs.declared.events.Happened.{Happened}
use Rattle.nm_history.specs.declared.events.Happened.TheVariants.{Send, Match, Ran}
use Rattle.nm_history.specs.declared.plain.Pair.{Pair}
use Rattle.nm_history.specs.AtEach.{AtEach, AtEachAfter}
use Rattle.nm_history.specs.Happens.{happened, is_cancel}
use Rattle.nm_history.specs.Completion.{Request, pair_of_receive, result_of, is_here, shown}
use Rattle.nm_history.specs.Completion.Request.{Sending, Receiving}
use Rattle.nm_history.specs.Answers.{live, answer_of, Message, live_message, is_started}
use Rattle.nm_history.specs.Delivery.{asked_pair, pair_of_request}
use Rattle.nm_history.specs.RankRun.{StartAt, Starts, start_of, starts_since, since_command, since_after, is_start}
use Rattle.nm_history.specs.RankRun.{without_number}
use Rattle.nm_history.proofs.Growing.{fold-append}
use Rattle.nm_history.specs.Sends.{sends}
use Rattle.nm_types.proofs.ListLemmas.{all_split}

-- a receive's result that shows a message is of one that is here
result_here : (h : List Event) (number source tag : ℕ) (body : List ℕ) (pair : Pair) →
    result_of h (Receiving number) ≡ Some (answer.Got source tag body) → pair_of_receive h number ≡ Some pair →
    is_here h pair ≡ true
result_here h number source tag body pair result paired = by_cancel (happened (is_cancel number) h) result where
  by_here : (b : Bool) → cond b (Some (shown pair)) None ≡ Some (answer.Got source tag body) → b ≡ true
  by_here true result = refl
  by_here false result = cc

  by_cancel : (b : Bool) → cond b (Some answer.Cancelled)
      (option_and_then (λ pair. cond (is_here h pair) (Some (shown pair)) None) (pair_of_receive h number)) ≡ Some
      (answer.Got source tag body) → is_here h pair ≡ true
  by_cancel true result = cc
  by_cancel false result = by_here (is_here h pair)
      (ap (λ (o : Option Pair). option_and_then (λ pair. cond (is_here h pair) (Some (shown pair)) None) o) (sym paired)
      ∙ result)

-- so is the answer of a wait or a test
pub answer_here : (commands : List Numbered) (h : List Event) (line : ℕ) (c : Command) (source tag : ℕ)
    (body : List ℕ) (pair : Pair) → answer_of commands h line c ≡ Some (answer.Got source tag body) →
    asked_pair commands h c ≡ Some pair → is_here h pair ≡ true
answer_here commands h line (command.Wait q) source tag body pair answered asked =
    by_live (live commands h q) answered asked where
      by_live : (o : Option Request) → option_map_or (result_of h) o (Some answer.Null) ≡ Some
          (answer.Got source tag body) → option_and_then (pair_of_request h) o ≡ Some pair → is_here h pair ≡ true
      by_live None answered asked = cc
      by_live (Some (Sending to n)) answered asked = cc
      by_live (Some (Receiving number)) answered asked = result_here h number source tag body pair answered asked
answer_here commands h line (command.Test q) source tag body pair answered asked =
    by_live (live commands h q) answered asked where
      by_result : (o : Option Answer) → Some (unwrap_or o answer.No) ≡ Some (answer.Got source tag body) →
          o ≡ Some (answer.Got source tag body)
      by_result None answered = cc
      by_result (Some a) answered = answered

      by_live : (o : Option Request) →
          Some (option_map_or (λ request. unwrap_or (result_of h request) answer.No) o answer.Null) ≡ Some
          (answer.Got source tag body) → option_and_then (pair_of_request h) o ≡ Some pair → is_here h pair ≡ true
      by_live None answered asked = cc
      by_live (Some (Sending to n)) answered asked = cc
      by_live (Some (Receiving number)) answered asked = result_here h number source tag body pair
          (by_result (result_of h (Receiving number)) answered) asked
answer_here commands h line c source tag body pair answered asked = cc

-- a command sends to this rank
abbrev pub SendsTo : ℕ → Command → Type 0
SendsTo to (command.Send to' q tag ctx sync body) = to' ≡ to
SendsTo to _ = ⊥

-- a send has its command
abbrev pub IsCommanded : List Numbered → Happened → Type 0
IsCommanded commands (Send to n tag ctx len how line) = IsSomeAnd (command_at commands line) (SendsTo to)
IsCommanded commands _ = Unit {0}

one_start : (commands : List Numbered) (ws : List Happened) (line to tag ctx len : ℕ) (how : _) (c : Command) →
    command_at commands line ≡ Some c → SendsTo to c → map without_number ws ≡ Send to 0 tag ctx len how line ∷ [] →
    AllByRecursion (IsCommanded commands) ws
one_start commands [] line to tag ctx len how c at sends same = tt
one_start commands (w ∷ []) line to tag ctx len how c at sends same = (by_what w same, tt) where
  by_what : (w : Happened) → without_number w ∷ [] ≡ Send to 0 tag ctx len how line ∷ [] → IsCommanded commands w
  by_what (Send to' n' tag' ctx' len' how' line') same =
      let to_is : to' ≡ to = cc in
      let line_is : line' ≡ line = cc in
      subst (λ (k : ℕ). IsSomeAnd (command_at commands line') (SendsTo k)) (sym to_is)
      (subst (λ (k : ℕ). IsSomeAnd (command_at commands k) (SendsTo to)) (sym line_is)
      (subst (λ (o : Option Command). IsSomeAnd o (SendsTo to)) (sym at) sends))
  by_what w same = tt
one_start commands (w ∷ v ∷ ws) line to tag ctx len how c at sends same = cc

-- an event that is no send
abbrev no_send : Happened → Bool
no_send (Send to n tag ctx len how line) = false
no_send _ = true

unsent : (commands : List Numbered) (w : Happened) → no_send w ≡ true → IsCommanded commands w
unsent commands (Send to n tag ctx len how line) other = cc
unsent commands w other = tt

other_start : (commands : List Numbered) (ws : List Happened) (v : Happened) → no_send v ≡ true →
    map without_number ws ≡ v ∷ [] → AllByRecursion (IsCommanded commands) ws
other_start commands [] v other same = tt
other_start commands (w ∷ []) v other same =
    (unsent commands w (by_what w (let first : without_number w ≡ v = cc in ap no_send first ∙ other)), tt) where
      by_what : (w : Happened) → no_send (without_number w) ≡ true → no_send w ≡ true
      by_what (Send to n tag ctx len how line) other = other
      by_what w other = refl
other_start commands (w ∷ u ∷ ws) v other same = cc

no_start : (commands : List Numbered) (ws : List Happened) → map without_number ws ≡ [] →
    AllByRecursion (IsCommanded commands) ws
no_start commands [] same = tt
no_start commands (w ∷ ws) same = cc

-- what a command started is that command's
started : (eager : ℕ) (commands : List Numbered) (before : List Event) (line : ℕ) (ws : List Happened) (c : Command) →
    command_at commands line ≡ Some c → map without_number ws ≡ start_of eager commands before line c →
    AllByRecursion (IsCommanded commands) ws
started eager commands before line ws (command.Send to q tag ctx sync body) at same =
    one_start commands ws line to tag ctx _ _ (command.Send to q tag ctx sync body) at refl same
started eager commands before line ws (command.Recv q from tag ctx cap) at same = other_start commands ws _ refl same
started eager commands before line ws (command.Mrecv q m cap) at same = by_message (live_message commands before m)
    same where
      by_message : (o : Option Message) → map without_number ws ≡ option_map_or
          (λ message. Match 0 message.from message.n cap line ∷ []) o [] → AllByRecursion (IsCommanded commands) ws
      by_message None same = no_start commands ws same
      by_message (Some message) same = other_start commands ws _ refl same
started eager commands before line ws c at same = no_start commands ws same

run_starts : (eager : ℕ) (commands : List Numbered) (before : List Event) (line : ℕ) (b : Bool) (ws : List Happened) →
    map without_number ws ≡ cond b (option_map_or (start_of eager commands before line) (command_at commands line) [])
    [] → AllByRecursion (IsCommanded commands) ws
run_starts eager commands before line false ws same = no_start commands ws same
run_starts eager commands before line true ws same = by_command (command_at commands line) refl same where
  by_command : (o : Option Command) → command_at commands line ≡ o → map without_number ws ≡ option_map_or
      (start_of eager commands before line) o [] → AllByRecursion (IsCommanded commands) ws
  by_command None at same = no_start commands ws same
  by_command (Some c) at same = started eager commands before line ws c at same

commanded_from : (eager : ℕ) (commands : List Numbered) (b events : List Event) →
    AtEachAfter (λ before e. StartAt eager commands before e.what) b events → starts_since (b ++ events) ≡ [] →
    AllByRecursion (IsCommanded commands) (starts_since b) × AllByRecursion (λ e. IsCommanded commands e.what) events
commanded_from eager commands b [] each none = (
  subst (λ (ws : List Happened). AllByRecursion (IsCommanded commands) ws)
      (sym (ap starts_since (sym (append-nil b)) ∙ none)) tt,
  tt,
)
commanded_from eager commands b (e ∷ events) each none =
    let rest = commanded_from eager commands (b ++ e ∷ []) events each.1
    (ap starts_since (append_assoc b (e ∷ []) events) ∙ none) in
    let since : starts_since (b ++ e ∷ []) ≡ filter is_start (since_after (since_command b) e.what) =
    ap (λ (ws : List Happened). filter is_start ws)
    (fold-append (λ since (e : Event). since_after since e.what) [] b (e ∷ [])) in
    by_what e.what each.0 (subst (λ (ws : List Happened). AllByRecursion (IsCommanded commands) ws) since rest.0) rest.1
  where
    by_what : (w : Happened) → StartAt eager commands b w → AllByRecursion (IsCommanded commands)
        (filter is_start (since_after (since_command b) w)) → AllByRecursion (λ e. IsCommanded commands e.what) events →
        AllByRecursion (IsCommanded commands) (starts_since b)
        × (IsCommanded commands w × AllByRecursion (λ e. IsCommanded commands e.what) events)
    by_what (Ran line answer) right since later =
        (run_starts eager commands b line (is_started answer) (starts_since b) right.0, (tt, later))
    by_what (Send to n tag ctx len how line) right since later =
        let parts = all_split (IsCommanded commands) (starts_since b) (Send to n tag ctx len how line ∷ [])
        (subst (λ (ws : List Happened). AllByRecursion (IsCommanded commands) ws)
        (filter-append is_start (since_command b) (Send to n tag ctx len how line ∷ [])) since) in
        (parts.0, (parts.1.0, later))
    by_what w right since later = (
      (all_split (IsCommanded commands) (starts_since b) (filter is_start (w ∷ []))
          (subst (λ (ws : List Happened). AllByRecursion (IsCommanded commands) ws)
          (filter-append is_start (since_command b) (w ∷ [])) since)).0,
      (tt, later),
    )

-- each send of a rank's run has its command
pub sends_commanded : (eager : ℕ) (commands : List Numbered) (h : List Event) → Starts eager commands h →
    AllByRecursion (λ e. IsCommanded commands e.what) h
unfolding AtEach
sends_commanded eager commands h starts = (commanded_from eager commands [] h starts.made starts.no_others).1
