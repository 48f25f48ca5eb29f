-- What the calls of C write into a status and a body.
use Rattle.std.specs.Prelude.{◌≡◌, ◌++◌, ℕ, if◌then◌else◌, nat_le, Option, Some, None, List, length, take, drop}
use Rattle.nm_types.specs.declared.answers.Answer.{Answer}
use Rattle.nm_types.specs.declared.answers.Answer.TheVariants as answer
use Rattle.nm_types.specs.declared.scripts.Command.{Command}
use Rattle.nm_process.specs.LastAnswer.{last_answer}
use Rattle.nm_handle.specs.declared.handles.Handle.{Handle}
use Rattle.nm_handle.specs.Standing.{process_of}
use Rattle.nm_c.specs.declared.codes.Code.{Code}
use Rattle.nm_c.specs.declared.Status.{Status}
use Rattle.nm_c.specs.Causes.{IsReason}
use Rattle.nm_c.specs.Codes.{HasAnswered}

-- a length as 32 bits tell it
abbrev pub length_said : ℕ → ℕ
length_said n = if nat_le n 4294967295 then n else 4294967295

-- the envelope and the length of the message that an answer tells of (MPI_Status: MPI 3.1, 3.2.5)
abbrev pub envelope_said : Answer → Option Status
envelope_said (answer.Got from tag body) =
    Some (record { from = from; tag = tag; length = length_said (length body) })
envelope_said (answer.Cut from tag len) = Some (record { from = from; tag = tag; length = len })
envelope_said (answer.Seen seen) = Some (record { from = seen.from; tag = seen.tag; length = seen.len })
envelope_said _ = None

-- the body of the message that it gives
abbrev pub bytes_said : Answer → Option (List ℕ)
bytes_said (answer.Got from tag body) = Some body
bytes_said _ = None

-- what is in a status after an answer, if there was one
abbrev pub status_after : Option Status → Status → Status
status_after None s = s
status_after (Some t) s = t

-- so it is, whether there was one or not
abbrev pub status_said : Option Answer → Status → Status
status_said None s = s
status_said (Some a) s = status_after (envelope_said a) s

-- what is in memory once bytes were written over its beginning, as many as there is room for
abbrev pub overlay : List ℕ → List ℕ → List ℕ
overlay bytes room = take (length room) bytes ++ drop (length bytes) room

-- what is in it after an answer that gave these bytes, or none
abbrev pub body_after : Option (List ℕ) → List ℕ → List ℕ
body_after None room = room
body_after (Some bytes) room = overlay bytes room

-- so it is, whether there was an answer or not
abbrev pub body_said : Option Answer → List ℕ → List ℕ
body_said None room = room
body_said (Some a) room = body_after (bytes_said a) room

-- A call of this command ran it and answered, and the status is what the answer tells: where it tells of no message,
-- it is as it was.
pub record HasShown (x : Command) (s t : Status) (a b : Handle) (c : Code) : Type 0 where
  pub answered : HasAnswered x a b c
  pub status : t ≡ status_said (last_answer (process_of b).rank.events) s

-- so it did, and the memory has the body that the answer gives
pub record HasTold (x : Command) (s t : Status) (room bytes : List ℕ) (a b : Handle) (c : Code) : Type 0 where
  pub shown : HasShown x s t a b c
  pub body : bytes ≡ body_said (last_answer (process_of b).rank.events) room

-- it was refused for a reason, and nothing was written into the status
pub record LeavesStatus (x : Command) (s t : Status) (a : Handle) (e : Code) : Type 0 where
  pub reason : IsReason x a e
  pub status : t ≡ s

-- nor into the body
pub record LeavesBoth (x : Command) (s t : Status) (room bytes : List ℕ) (a : Handle) (e : Code) : Type 0 where
  pub status : LeavesStatus x s t a e
  pub body : bytes ≡ room
