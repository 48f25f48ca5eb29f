-- The rule on starts, by the sends and receives since the last answer.
use Rattle.std.proofs.Common.{◌≡◌, ℕ, ◌≤◌, Option, Some, None, List, [], ◌∷◌, length}
use Rattle.std.proofs.Common.{sym, ◌∙◌, ap}
use Rattle.std.proofs.Common.{arith}
use Rattle.std.specs.Prelude.{option_and_then, option_map}
use Rattle.std.specs.Option.{option_map_or}
use Rattle.nm_types.specs.declared.answers.Answer.{Answer}
use Rattle.nm_types.specs.declared.scripts.Command.{Command}
use Rattle.nm_types.specs.declared.scripts.Command.TheVariants as command
use Rattle.nm_types.specs.Commands.{Numbered, command_at}
use Rattle.nm_history.specs.declared.events.Event.{Event}
use Rattle.nm_history.specs.declared.events.Happened.TheVariants as happening
use Rattle.nm_history.specs.Answers.{Message as Claimed, live_message}
use Rattle.nm_history.specs.RankRun.{start_of}
use Rattle.nm_match.specs.declared.names.Message.{Message}
use Rattle.nm_lookups.specs.AskedFor.{asked_message, handle_of, message_meant}
use Rattle.nm_check_rank.specs.Handles.{IsOfHandle}

-- no start has two sends or receives
one_at_most : (o : Option Claimed) (cap line : ℕ) →
    length (option_map_or (λ m. happening.Match 0 m.from m.n cap line ∷ []) o []) ≤ 1
one_at_most None cap line = omega arith
one_at_most (Some m) cap line = omega arith

pub few_started : (eager : ℕ) (commands : List Numbered) (before : List Event) (line : ℕ) (c : Command) →
    length (start_of eager commands before line c) ≤ 1
few_started eager commands before line (command.Send to q tag ctx sync body) = omega arith
few_started eager commands before line (command.Recv q from tag ctx cap) = omega arith
few_started eager commands before line (command.Mrecv q m cap) = one_at_most (live_message commands before m) cap line
few_started eager commands before line c = omega arith

-- the message of the handle of the command of a line
pub of_handle : (commands : List Numbered) (before : List Event) (line : ℕ) (answer : Answer) (c : Command)
    (message : Option Message) →
    Some c ≡ command_at commands line →
    option_map message_meant message ≡ asked_message commands before (happening.Ran line answer) →
    IsOfHandle commands before c message
of_handle commands before line answer c message at asked = λ m handle.
    asked ∙ ap (λ (o : Option Command). option_and_then (live_message commands before)
    (option_and_then handle_of o)) (sym at)
    ∙ ap (λ (o : Option ℕ). option_and_then (live_message commands before) o) handle
