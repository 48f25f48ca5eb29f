-- What C is told that a rank has left.
use Rattle.std.specs.Prelude.{◌≡◌, if◌then◌else◌, Result, Ok, Err}
use Rattle.nm_handle.specs.declared.handles.Handle.{Handle}
use Rattle.nm_handle.specs.declared.states.State.{State}
use Rattle.nm_handle.specs.declared.states.State.TheVariants as state
use Rattle.nm_handle.specs.Live.{has_to_send}
use Rattle.nm_c.specs.Causes.{IsReasonOfClose}
use Rattle.nm_c.specs.Codes.{IsClosed}
use Rattle.nm_c.specs.declared.Left.{Left}
use Rattle.nm_c.specs.declared.codes.Code.{Code}
use Rattle.nm_c.specs.declared.codes.Code.TheVariants as code

-- what a rank has left
abbrev pub left_of : Handle → Left
left_of h = record { requests = h.live; to_send = if has_to_send h then 1 else 0 }

-- what it comes to that a rank is asked, by whether it has failed
abbrev pub left_came : State → Result Code Code
left_came state.Failed = Err code.Failed
left_came state.Open = Ok code.Done
left_came state.Closed = Ok code.Done

-- what is told then
abbrev pub left_told : State → Left → Left → Left
left_told state.Failed told before = before
left_told state.Open told before = told
left_told state.Closed told before = told

-- a rank was closed, and what it has left is told
pub record HasLeft (old new : Left) (a b : Handle) (c : Code) : Type 0 where
  pub closed : IsClosed a b c
  pub told : new ≡ left_of a

-- it was not, for a reason, and nothing is told
pub record LeavesLeft (old new : Left) (a : Handle) (e : Code) : Type 0 where
  pub reason : IsReasonOfClose a e
  pub same : new ≡ old
