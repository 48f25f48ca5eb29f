-- What the command of an event finds of the messages that wait.
use Rattle.std.specs.Prelude.{ℕ, Option, Some, None, option_and_then, List}
use Rattle.nm_types.specs.declared.messages.Arrival.{Arrival}
use Rattle.nm_types.specs.declared.scripts.Command.{Command}
use Rattle.nm_types.specs.declared.scripts.Command.TheVariants as command
use Rattle.nm_types.specs.Commands.{Numbered, command_at}
use Rattle.nm_history.specs.declared.events.Event.{Event}
use Rattle.nm_history.specs.declared.events.Happened.{Happened}
use Rattle.nm_history.specs.declared.events.Happened.TheVariants.{Claim, Ran}
use Rattle.nm_history.specs.Matching.{first_message, matched_pairs}

-- the first free message that a probe selects, a matched one too
abbrev pub found_by : List Event → Command → Option Arrival
found_by before (command.Probe from tag ctx) =
    first_message before (matched_pairs before) from tag ctx
found_by before (command.Await from tag ctx) =
    first_message before (matched_pairs before) from tag ctx
found_by before (command.Mprobe m from tag ctx) =
    first_message before (matched_pairs before) from tag ctx
found_by before _ = None

-- the line of the command that an event answers, or claims a message for
abbrev pub line_of_look : Happened → Option ℕ
line_of_look (Ran line answer) = Some line
line_of_look (Claim from n line) = Some line
line_of_look _ = None

-- what the command of an event finds on the events before it
abbrev pub look_of : List Numbered → List Event → Happened → Option Arrival
look_of commands before what =
    option_and_then (found_by before)
    (option_and_then (λ line. command_at commands line) (line_of_look what))
