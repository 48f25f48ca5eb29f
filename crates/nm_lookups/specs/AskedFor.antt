-- What a command asks for: the live request of its name, and the live message of its handle.
use Rattle.std.specs.Prelude.{◌≡◌, ◌==◌, if◌then◌else◌, ℕ, nat_eq, IsSomeAnd, Option, Some, None}
use Rattle.std.specs.Prelude.{option_and_then, option_map, List, slice_get, take}
use Rattle.indexmap.specs.IndexMap.{IndexMap, get}
use Rattle.nm_types.specs.declared.scripts.Command.{Command}
use Rattle.nm_types.specs.declared.scripts.Command.TheVariants as command
use Rattle.nm_types.specs.Commands.{Numbered, command_at}
use Rattle.nm_history.specs.declared.events.Event.{Event}
use Rattle.nm_history.specs.declared.events.Happened.{Happened}
use Rattle.nm_history.specs.declared.events.Happened.TheVariants.{Ran}
use Rattle.nm_history.specs.Answers.{line_of_handle, line_of_name, live, live_message}
use Rattle.nm_history.specs.Answers.{Message as Claimed}
use Rattle.nm_history.specs.Completion.{Request as Meant}
use Rattle.nm_history.specs.Completion.Request.{Sending as sending, Receiving as receiving}
use Rattle.nm_match.specs.declared.names.Message.{Message}
use Rattle.nm_lookups.specs.declared.asked.asked.Asked.{Asked}
use Rattle.nm_lookups.specs.declared.asked.requests.Change.{Change}
use Rattle.nm_lookups.specs.declared.asked.requests.Change.TheVariants.{Begins, Ends, Keeps}
use Rattle.nm_lookups.specs.declared.asked.requests.Request.{Request}
use Rattle.nm_lookups.specs.declared.asked.requests.Request.TheVariants.{Sending, Receiving}

-- the request that is meant
abbrev pub meant_by : Request → Meant
meant_by (Sending to n) = sending to n
meant_by (Receiving number) = receiving number

-- the message that is meant
abbrev pub message_meant : Message → Claimed
message_meant m = record { from = m.rank; n = m.n }

-- the name of a command's request
abbrev pub name_of : Command → Option ℕ
name_of (command.Send to q tag ctx sync body) = Some q
name_of (command.Recv q from tag ctx cap) = Some q
name_of (command.Wait q) = Some q
name_of (command.Test q) = Some q
name_of (command.Cancel q) = Some q
name_of (command.Mrecv q m cap) = Some q
name_of _ = None

-- the handle of a command's message
abbrev pub handle_of : Command → Option ℕ
handle_of (command.Mprobe m from tag ctx) = Some m
handle_of (command.Mrecv q m cap) = Some m
handle_of _ = None

-- the name of the request that what happened asks for
abbrev pub name_asked : List Numbered → Happened → Option ℕ
name_asked commands (Ran line answer) = option_and_then name_of (command_at commands line)
name_asked commands _ = None

-- the handle of the message that what happened asks for
abbrev pub handle_asked : List Numbered → Happened → Option ℕ
handle_asked commands (Ran line answer) = option_and_then handle_of (command_at commands line)
handle_asked commands _ = None

-- the live request of that name, before the answer
abbrev pub asked_request : List Numbered → List Event → Happened → Option Meant
asked_request commands before what =
    option_and_then (live commands before) (name_asked commands what)

-- the live message of that handle, before the answer
abbrev pub asked_message : List Numbered → List Event → Happened → Option Claimed
asked_message commands before what =
    option_and_then (live_message commands before) (handle_asked commands what)

-- at each place of a history this is the request asked for
abbrev pub AreAsked : List Numbered → List Event → List (Option Request) → Type 0
AreAsked commands h asked =
    (k : ℕ) (e : Event) → slice_get h k ≡ Some e →
    IsSomeAnd (slice_get asked k)
    (λ request. option_map meant_by request ≡ asked_request commands (take k h) e.what)

-- .. and this the message
abbrev pub AreMessages : List Numbered → List Event → List (Option Message) → Type 0
AreMessages commands h asked =
    (k : ℕ) (e : Event) → slice_get h k ≡ Some e →
    IsSomeAnd (slice_get asked k)
    (λ message. option_map message_meant message ≡ asked_message commands (take k h) e.what)

-- the lines of the starts that names stand for after a history
abbrev pub AreNames : {S : Type 0} → List Numbered → List Event → IndexMap ℕ ℕ S → Type 0
AreNames commands h names = (q : ℕ) → get nat_eq names q ≡ line_of_name commands h q

-- the lines of the claims that handles stand for after a history
abbrev pub AreHandles : {S : Type 0} → List Numbered → List Event → IndexMap ℕ ℕ S → Type 0
AreHandles commands h handles = (m : ℕ) → get nat_eq handles m ≡ line_of_handle commands h m

-- what the commands of a history ask for, and what names stand for at its end
pub record IsAskedOf (commands : List Numbered) (h : List Event) (asked : Asked) : Type 0 where
  pub requests : AreAsked commands h asked.requests.items
  pub messages : AreMessages commands h asked.messages.items
  pub names : AreNames commands h asked.names

-- the line that a name or a handle stands for after a change
abbrev pub changed : ℕ → ℕ → Option ℕ → Change → Option ℕ
changed name line was (Begins q) = if q == name then Some line else was
changed name line was (Ends q) = if q == name then None else was
changed name line was Keeps = was
