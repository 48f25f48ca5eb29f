-- What the calls of C answer: codes, and their numbers in include/nemesis.h.
use Rattle.std.specs.Prelude.{◌≡◌, ◌≢◌, ℕ, ◌==◌, if◌then◌else◌, Bool, true, false, Option, Some, None}
use Rattle.std.specs.Prelude.{Result, Ok, Err, IfErr, IfOk}
use Rattle.std.specs.Arc.{arc_value}
use Rattle.nm_types.specs.declared.answers.Answer.{Answer}
use Rattle.nm_types.specs.declared.answers.Answer.TheVariants as answer
use Rattle.nm_types.specs.declared.messages.Peer.{Peer}
use Rattle.nm_types.specs.declared.messages.Peer.TheVariants as peer
use Rattle.nm_types.specs.declared.messages.TagPick.{TagPick}
use Rattle.nm_types.specs.declared.messages.TagPick.TheVariants as pick
use Rattle.nm_types.specs.declared.scripts.Command.{Command}
use Rattle.nm_calls.specs.declared.faults.Fault.{Fault}
use Rattle.nm_calls.specs.declared.faults.Fault.TheVariants as fault
use Rattle.nm_process.specs.LastAnswer.{last_answer}
use Rattle.nm_process.specs.declared.steps.Step.{Step}
use Rattle.nm_world.specs.Actors.{did}
use Rattle.nm_handle.specs.declared.handles.Handle.{Handle}
use Rattle.nm_handle.specs.declared.states.State.TheVariants as state
use Rattle.nm_handle.specs.Standing.{HasCalled, HasGiven, HasTurned, process_of}
use Rattle.nm_c.specs.declared.codes.Code.{Code}
use Rattle.nm_c.specs.declared.codes.Code.TheVariants as code

-- the source of a number (MPI_ANY_SOURCE: MPI 3.1, 3.2.4)
abbrev pub peer_of : ℕ → Peer
peer_of n = if n == 4294967295 then peer.Any else peer.One n

-- the tag of a number (MPI_ANY_TAG: 3.2.4)
abbrev pub pick_of : ℕ → TagPick
pick_of n = if n == 4294967295 then pick.Any else pick.One n

-- the code of what a command answered; one that waits has no answer
abbrev pub code_said : Option Answer → Code
code_said None = code.Pending
code_said (Some answer.Started) = code.Done
code_said (Some answer.Busy) = code.Busy
code_said (Some answer.Null) = code.NoSuch
code_said (Some answer.No) = code.Pending
code_said (Some answer.Nothing) = code.Nothing
code_said (Some answer.Sent) = code.Sent
code_said (Some (answer.Got from tag body)) = code.Received
code_said (Some (answer.Cut from tag len)) = code.Cut
code_said (Some answer.Cancelled) = code.Cancelled
code_said (Some (answer.Seen seen)) = code.Seen
code_said (Some answer.Done) = code.Withdrawn
code_said (Some answer.Late) = code.Late
code_said (Some answer.Asked) = code.Asked

-- the code of a refusal
abbrev pub code_of_fault : Fault → Code
code_of_fault fault.Name = code.BadName
code_of_fault fault.Rank = code.BadRank
code_of_fault fault.Tag = code.BadTag
code_of_fault fault.Context = code.BadContext
code_of_fault fault.Length = code.BadLength
code_of_fault fault.Waits = code.Waits
code_of_fault fault.Closed = code.Closed
code_of_fault fault.Worn = code.Worn
code_of_fault fault.Memory = code.Memory
code_of_fault fault.Failed = code.Failed

-- a code that no command answers: the call was refused
abbrev pub is_refusal : Code → Bool
is_refusal code.BadName = true
is_refusal code.BadRank = true
is_refusal code.BadTag = true
is_refusal code.BadContext = true
is_refusal code.BadLength = true
is_refusal code.BadWorld = true
is_refusal code.Short = true
is_refusal code.Memory = true
is_refusal code.Failed = true
is_refusal code.Closed = true
is_refusal code.Worn = true
is_refusal code.Waits = true
is_refusal _ = false

-- A call was refused with this code: nothing was done, but where memory was refused.
pub record IsRefused (a b : Handle) (e : Code) : Type 0 where
  pub kind : is_refusal e ≡ true
  pub same : e ≢ code.Memory → b ≡ a

-- a call of this command ran it, and answered the code of its answer
pub record HasAnswered (x : Command) (a b : Handle) (c : Code) : Type 0 where
  pub step : Step
  pub called : HasCalled x a b step
  pub said : c ≡ code_said (last_answer (process_of b).rank.events)

-- a command was put ahead, for turns to run
abbrev pub IsAhead : Command → Handle → Handle → Code → Type 0
IsAhead x a b c = HasGiven x a b × (c ≡ code.Done)

-- what a turn is answered by: whether it did anything
abbrev pub code_of_turn : Bool → Code
code_of_turn true = code.Moved
code_of_turn false = code.Idle

-- a turn was made
abbrev pub IsTurn : Handle → Handle → Code → Type 0
IsTurn a b c =
    HasTurned a b × (c ≡ code_of_turn (did (arc_value a.fabric).ranks a.player.actor b.player.actor))

-- the rank was closed
abbrev pub IsClosed : Handle → Handle → Code → Type 0
IsClosed a b c = (b ≡ record a { state = state.Closed }) × (c ≡ code.Done)

-- the number of a code
abbrev pub number_of : Code → ℕ
number_of code.Done = 0
number_of code.Pending = 1
number_of code.Sent = 2
number_of code.Received = 3
number_of code.Cut = 4
number_of code.Cancelled = 5
number_of code.Seen = 6
number_of code.Nothing = 7
number_of code.Withdrawn = 8
number_of code.Late = 9
number_of code.Asked = 10
number_of code.Moved = 11
number_of code.Idle = 12
number_of code.Busy = 100
number_of code.NoSuch = 101
number_of code.BadName = 102
number_of code.BadRank = 103
number_of code.BadTag = 104
number_of code.BadContext = 105
number_of code.BadLength = 106
number_of code.BadWorld = 107
number_of code.Short = 108
number_of code.Memory = 109
number_of code.Failed = 110
number_of code.Closed = 111
number_of code.Worn = 112
number_of code.Waits = 113

-- the number that an export answers
abbrev pub number_said : Result Code Code → ℕ
number_said (Ok c) = number_of c
number_said (Err e) = number_of e

-- An export answered this number, that of what its call came to: it did so and answered a code, or it was refused,
-- for such a cause.
pub record Answers (P : Handle → Handle → Code → Type 0) (Q : Handle → Code → Type 0) (a b : Handle) (n : ℕ)
    : Type 0 where
  pub called : Result Code Code
  pub number : n ≡ number_said called
  pub done : IfOk called (P a b)
  pub refused : IfErr called (IsRefused a b)
  pub cause : IfErr called (Q a)
