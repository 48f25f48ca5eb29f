-- Why a call of C is refused.
use Rattle.std.specs.Prelude.{◌≡◌, ◌<◌, ◌⊎◌, ℕ}
use Rattle.nm_types.specs.declared.limits.TheConstants.{MAX_BODY, MAX_CONTEXT, MAX_NAME, MAX_TAG}
use Rattle.nm_types.specs.declared.messages.Peer.{Peer}
use Rattle.nm_types.specs.declared.messages.Peer.TheVariants as peer
use Rattle.nm_types.specs.declared.messages.TagPick.{TagPick}
use Rattle.nm_types.specs.declared.messages.TagPick.TheVariants as pick
use Rattle.nm_types.specs.declared.scripts.Command.{Command}
use Rattle.nm_types.specs.declared.scripts.Command.TheVariants as command
use Rattle.nm_types.specs.Bodies.{body_len}
use Rattle.nm_calls.specs.declared.faults.Fault.{Fault}
use Rattle.nm_handle.specs.declared.handles.Handle.{Handle}
use Rattle.nm_handle.specs.declared.states.State.TheVariants as state
use Rattle.nm_handle.specs.Standing.{IsCause}
use Rattle.nm_c.specs.Codes.{code_of_fault}
use Rattle.nm_c.specs.declared.codes.Code.{Code}
use Rattle.nm_c.specs.declared.codes.Code.TheVariants as code

-- a number is above the most that there is of its kind, as this code tells
abbrev pub IsOver : Code → ℕ → ℕ → Code → Type 0
IsOver c most n e = (e ≡ c) × (most < n)

-- a source is no number of a rank, whatever the world
abbrev pub IsNoPeer : Peer → Code → Type 0
IsNoPeer peer.Any e = ⊥
IsNoPeer (peer.One n) e = IsOver code.BadRank 255 n e

-- a tag that is asked for is none
abbrev pub IsNoPick : TagPick → Code → Type 0
IsNoPick pick.Any e = ⊥
IsNoPick (pick.One n) e = IsOver code.BadTag MAX_TAG n e

-- an envelope that is asked for is none (MPI 3.1, 3.2.3 and 3.2.4)
abbrev pub IsNoEnvelope : Peer → TagPick → ℕ → Code → Type 0
IsNoEnvelope from tag ctx e = IsNoPeer from e ⊎ (IsNoPick tag e ⊎ IsOver code.BadContext MAX_CONTEXT ctx e)

-- a number of a command is above its limit
abbrev pub IsAbove : Command → Code → Type 0
IsAbove (command.Send to q tag ctx sync body) e =
    IsOver code.BadName MAX_NAME q e ⊎ (IsOver code.BadRank 255 to e ⊎ (IsOver code.BadTag MAX_TAG tag e
    ⊎ (IsOver code.BadContext MAX_CONTEXT ctx e ⊎ IsOver code.BadLength MAX_BODY (body_len body) e)))
IsAbove (command.Recv q from tag ctx cap) e = IsOver code.BadName MAX_NAME q e ⊎ IsNoEnvelope from tag ctx e
IsAbove (command.Wait q) e = IsOver code.BadName MAX_NAME q e
IsAbove (command.Test q) e = IsOver code.BadName MAX_NAME q e
IsAbove (command.Probe from tag ctx) e = IsNoEnvelope from tag ctx e
IsAbove (command.Await from tag ctx) e = IsNoEnvelope from tag ctx e
IsAbove (command.Cancel q) e = IsOver code.BadName MAX_NAME q e
IsAbove (command.Mprobe m from tag ctx) e = IsOver code.BadName MAX_NAME m e ⊎ IsNoEnvelope from tag ctx e
IsAbove (command.Mrecv q m cap) e = IsOver code.BadName MAX_NAME q e ⊎ IsOver code.BadName MAX_NAME m e

-- why a call of this command was refused with this code: the core refused it, or it did not come so far
pub data IsReason (x : Command) (h : Handle) (e : Code) : Type 0 where
  above : IsAbove x e → IsReason x h e
  memory : e ≡ code.Memory → IsReason x h e
  faulted : (f : Fault) → e ≡ code_of_fault f → IsCause h x f → IsReason x h e

-- why a turn was
abbrev pub IsReasonOfTurn : Handle → Code → Type 0
IsReasonOfTurn h e = (e ≡ code.Memory) ⊎ ((e ≡ code.Failed) × (h.state ≡ state.Failed))

-- why a close was
abbrev pub IsReasonOfClose : Handle → Code → Type 0
IsReasonOfClose h e =
    ((e ≡ code.Closed) × (h.state ≡ state.Closed)) ⊎ ((e ≡ code.Failed) × (h.state ≡ state.Failed))
