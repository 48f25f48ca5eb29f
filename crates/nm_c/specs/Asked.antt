-- What C is told of the last command, when it asks for that alone.
use Rattle.std.specs.Prelude.{ℕ, if◌then◌else◌, nat_le, Bool, true, false, Option, Some, None, is_some}
use Rattle.std.specs.Prelude.{Result, Ok, Err, List, length}
use Rattle.nm_types.specs.declared.answers.Answer.{Answer}
use Rattle.nm_process.specs.LastAnswer.{last_answer}
use Rattle.nm_handle.specs.declared.handles.Handle.{Handle}
use Rattle.nm_handle.specs.declared.states.State.{State}
use Rattle.nm_handle.specs.declared.states.State.TheVariants as state
use Rattle.nm_handle.specs.Standing.{calls_of, process_of}
use Rattle.nm_c.specs.Codes.{code_said}
use Rattle.nm_c.specs.Told.{bytes_said, overlay}
use Rattle.nm_c.specs.declared.codes.Code.{Code}
use Rattle.nm_c.specs.declared.codes.Code.TheVariants as code

-- what the last command came to, where one waits or none does
abbrev pub ended_so : Bool → Option Answer → Result Code Code
ended_so true o = Ok code.Pending
ended_so false None = Err code.NoSuch
ended_so false (Some a) = Ok (code_said (Some a))

-- its answer, where none waits
abbrev pub unless : Bool → Option Answer → Option Answer
unless true o = None
unless false o = o

-- so it is of a rank that has not failed, and one that has tells so
abbrev pub asked_at : State → Bool → Option Answer → Result Code Code
asked_at state.Failed waits o = Err code.Failed
asked_at state.Open waits o = ended_so waits o
asked_at state.Closed waits o = ended_so waits o

-- the answer that it tells
abbrev pub told_at : State → Bool → Option Answer → Option Answer
told_at state.Failed waits o = None
told_at state.Open waits o = unless waits o
told_at state.Closed waits o = unless waits o

-- what it comes to that a rank is asked
abbrev pub asked : Handle → Result Code Code
asked h = asked_at h.state (is_some (calls_of h).next) (last_answer (process_of h).rank.events)

-- the answer that is told then
abbrev pub to_tell : Handle → Option Answer
to_tell h = told_at h.state (is_some (calls_of h).next) (last_answer (process_of h).rank.events)

-- the body of an answer, if it gives one
abbrev pub bytes_in : Option Answer → Option (List ℕ)
bytes_in None = None
bytes_in (Some a) = bytes_said a

-- what it comes to that a whole body is wanted in memory
abbrev pub whole_of : Option (List ℕ) → List ℕ → Result Code Code
whole_of None room = Err code.NoSuch
whole_of (Some bytes) room = if nat_le (length bytes) (length room) then Ok code.Done else Err code.Short

-- what is there then: the body where there is room for all of it
abbrev pub after_whole : Option (List ℕ) → List ℕ → List ℕ
after_whole None room = room
after_whole (Some bytes) room = if nat_le (length bytes) (length room) then overlay bytes room else room

-- so it is of a rank that has not failed
abbrev pub whole_at : State → Option (List ℕ) → List ℕ → Result Code Code
whole_at state.Failed o room = Err code.Failed
whole_at state.Open o room = whole_of o room
whole_at state.Closed o room = whole_of o room

-- what is in memory then
abbrev pub after_at : State → Option (List ℕ) → List ℕ → List ℕ
after_at state.Failed o room = room
after_at state.Open o room = after_whole o room
after_at state.Closed o room = after_whole o room

-- so it is with that of a rank's last answer
abbrev pub asked_whole : Handle → List ℕ → Result Code Code
asked_whole h room = whole_at h.state (bytes_in (last_answer (process_of h).rank.events)) room

-- what is in memory then
abbrev pub after_asked : Handle → List ℕ → List ℕ
after_asked h room = after_at h.state (bytes_in (last_answer (process_of h).rank.events)) room
