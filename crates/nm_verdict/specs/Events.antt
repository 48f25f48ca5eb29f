-- The words of what happened.
use Rattle.std.specs.Prelude.{ℕ, List, ◌++◌, Option, Some, None, codes, decimal, slice_get}
use Rattle.nm_history.specs.declared.events.Event.{Event}
use Rattle.nm_history.specs.declared.events.Happened.{Happened}
use Rattle.nm_history.specs.declared.events.Happened.TheVariants as what
use Rattle.nm_history.specs.Quiescence.{Ended, history_of}
use Rattle.nm_breaks.specs.declared.places.EventLine.{EventLine}

-- a message to a rank
abbrev pub to_words : ℕ → ℕ → List ℕ
to_words to n = codes "message " ++ (decimal n ++ (codes " to rank " ++ decimal to))

-- .. from a rank
abbrev pub from_words : ℕ → ℕ → List ℕ
from_words from n = codes "message " ++ (decimal n ++ (codes " from rank " ++ decimal from))

-- a receive
abbrev pub receive_words : ℕ → List ℕ
receive_words number = codes "receive " ++ decimal number

-- the recall of a message to a rank
abbrev pub recall_words : ℕ → ℕ → List ℕ
recall_words to n = codes "the recall of " ++ to_words to n

-- the message or the receive to which it happened
abbrev pub subject_words : Happened → List ℕ
subject_words (what.Send to n tag ctx len how line) = to_words to n
subject_words (what.Post post line) = receive_words post.number
subject_words (what.Arrive a) = from_words a.env.from a.n
subject_words (what.Whole from n) = from_words from n
subject_words (what.Out to n) = to_words to n
subject_words (what.Cancel number done) = receive_words number
subject_words (what.Recall to n) = to_words to n
subject_words (what.Withdraw from n done) = from_words from n
subject_words (what.Undone to n done) = recall_words to n
subject_words (what.Claim from n line) = from_words from n
subject_words (what.Match number from n cap line) = receive_words number
subject_words (what.Ran line answer) = codes "the answer"

-- what happened to it
abbrev pub verb_words : Happened → List ℕ
verb_words (what.Send to n tag ctx len how line) = codes " was sent"
verb_words (what.Post post line) = codes " was posted"
verb_words (what.Arrive a) = codes " came"
verb_words (what.Whole from n) = codes " was whole"
verb_words (what.Out to n) = codes " left"
verb_words (what.Cancel number done) = codes " was to be cancelled"
verb_words (what.Recall to n) = codes " was recalled"
verb_words (what.Withdraw from n done) = codes " was to be withdrawn"
verb_words (what.Undone to n done) = codes " was answered"
verb_words (what.Claim from n line) = codes " was claimed"
verb_words (what.Match number from n cap line) = codes " took a claimed message"
verb_words (what.Ran line answer) = codes " was given"

-- the line of its command, if it names one
abbrev pub command_line : Happened → Option ℕ
command_line (what.Send to n tag ctx len how line) = Some line
command_line (what.Post post line) = Some line
command_line (what.Claim from n line) = Some line
command_line (what.Match number from n cap line) = Some line
command_line (what.Ran line answer) = Some line
command_line _ = None

-- .. in words
abbrev pub command_words : Option ℕ → List ℕ
command_words (Some line) = codes ", of the command in line " ++ decimal line
command_words None = codes ""

-- an event, if there is one: what happened, and its command
abbrev pub happened_words : Option Event → List ℕ
happened_words (Some e) =
    codes ", where " ++ (subject_words e.what ++ (verb_words e.what ++ command_words (command_line e.what)))
happened_words None = codes ""

-- .. of these ranks
abbrev pub event_words : List Ended → EventLine → List ℕ
event_words ranks event = happened_words (slice_get (history_of ranks event.spot.rank) event.spot.at)
