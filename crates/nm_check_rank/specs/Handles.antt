-- The request of a command's name, and the message of its handle.
use Rattle.std.specs.Prelude.{◌≡◌, ℕ, Option, Some, option_map, List}
use Rattle.nm_types.specs.declared.scripts.Command.{Command}
use Rattle.nm_types.specs.Commands.{Numbered}
use Rattle.nm_history.specs.declared.events.Event.{Event}
use Rattle.nm_history.specs.Answers.{live, live_message}
use Rattle.nm_match.specs.declared.names.Message.{Message}
use Rattle.nm_lookups.specs.AskedFor.{handle_of, meant_by, message_meant, name_of}
use Rattle.nm_lookups.specs.declared.asked.requests.Request.{Request}

-- where the command has a handle, this is its live message after these events
abbrev pub IsOfHandle : List Numbered → List Event → Command → Option Message → Type 0
IsOfHandle commands before c message =
    (m : ℕ) → handle_of c ≡ Some m →
    option_map message_meant message ≡ live_message commands before m

-- where the command has a name, this is its live request after these events
abbrev pub IsOfName : List Numbered → List Event → Command → Option Request → Type 0
IsOfName commands before c request =
    (q : ℕ) → name_of c ≡ Some q →
    option_map meant_by request ≡ live commands before q
