-- What a rank has left: live requests, and what is to be sent.
use Rattle.std.specs.Prelude.{ℕ, ◌+◌, ◌-◌, min, Bool, true, false, ◌||◌, Option, None, Some, is_some}
use Rattle.std.specs.List.{slice_get}
use Rattle.nm_types.specs.declared.answers.Answer.{Answer}
use Rattle.nm_types.specs.declared.answers.Answer.TheVariants as answer
use Rattle.nm_rndv.specs.Offers.{next_offered}
use Rattle.nm_process.specs.declared.steps.Step.{Step}
use Rattle.nm_process.specs.declared.steps.Step.TheVariants as step
use Rattle.nm_handle.specs.declared.handles.Handle.{Handle}

-- how many requests are live after an answer: one more that it started (MPI 3.1, 3.7.2), or one less of which it gave
-- the result (3.7.3), of at most those that 32 bits count
abbrev pub live_by : Answer → ℕ → ℕ
live_by answer.Started n = min (n + 1) 4294967295
live_by answer.Sent n = n - 1
live_by (answer.Got from tag body) n = n - 1
live_by (answer.Cut from tag len) n = n - 1
live_by answer.Cancelled n = n - 1
live_by answer.Busy n = n
live_by answer.Null n = n
live_by answer.No n = n
live_by answer.Nothing n = n
live_by (answer.Seen seen) n = n
live_by answer.Done n = n
live_by answer.Late n = n
live_by answer.Asked n = n

-- so it is where a command ran
abbrev pub live_after : Option Answer → ℕ → ℕ
live_after None n = n
live_after (Some a) n = live_by a n

-- so it is after a call that came to this
abbrev pub live_called : Step → Option Answer → ℕ → ℕ
live_called step.Ran o n = live_after o n
live_called step.Waits o n = n

-- so it is after a turn, before and after which a command was ahead, or none was
abbrev pub live_turned : Bool → Bool → Option Answer → ℕ → ℕ
live_turned true false o n = live_after o n
live_turned true true o n = n
live_turned false waits o n = n

-- whether packets or pieces of its messages are still to be sent
abbrev pub has_to_send : Handle → Bool
has_to_send h =
    is_some (slice_get h.player.actor.process.rank.sending.outbox.letters 0)
    || is_some (next_offered h.player.actor.process.rank.sending.offers)
