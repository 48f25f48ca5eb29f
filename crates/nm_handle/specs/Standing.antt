-- How a rank stands that its caller drives.
use Rattle.std.specs.Prelude.{◌≡◌, ◌⊎◌, ◌≤◌, ℕ, ◌+◌, None, Some, IsSome, is_some, List, [], ◌∷◌}
use Rattle.std.specs.Arc.{arc_value}
use Rattle.nm_types.specs.declared.packets.Packet.{Packet}
use Rattle.nm_types.specs.declared.scripts.Command.{Command}
use Rattle.nm_types.specs.Sizes.{Sizes}
use Rattle.nm_cells.specs.declared.port.Fabric.{Fabric}
use Rattle.nm_copyring.specs.declared.port.Rings.{Rings}
use Rattle.nm_rank.specs.Ranks.{IsFresh}
use Rattle.nm_process.specs.LastAnswer.{last_answer}
use Rattle.nm_process.specs.Processes.{ProcessView}
use Rattle.nm_process.specs.Steps.{HasStepped}
use Rattle.nm_process.specs.declared.steps.Step.{Step}
use Rattle.nm_world.specs.declared.players.Player.{Player}
use Rattle.nm_world.specs.Players.{PlayerInvariant, PlaysOn}
use Rattle.nm_calls.specs.declared.faults.Fault.{Fault}
use Rattle.nm_calls.specs.declared.faults.Fault.TheVariants as fault
use Rattle.nm_handle.specs.declared.handles.Handle.{Handle}
use Rattle.nm_handle.specs.declared.states.State.{State}
use Rattle.nm_handle.specs.declared.states.State.TheVariants as state
use Rattle.nm_handle.specs.Live.{live_called, live_turned}
use Rattle.nm_handle.specs.Worlds.{IsSameRank}
use Rattle.nm_calls.specs.Refusing.{IsOutOfRange}
use Rattle.nm_calls.specs.Calling.{CallsView, counted, gave, shown}

-- a rank that has not failed stands at exactly the calls that ran
abbrev pub StandsAt : {H : Type 0} → State → Fabric Packet → Rings → Player CallsView H → Type 0
StandsAt state.Failed f r x = Unit {0}
StandsAt s f r x = PlayerInvariant shown gave f r x

-- so it is with a handle
abbrev pub Stands : Handle → Type 0
Stands h = StandsAt h.state (arc_value h.fabric) (arc_value h.rings) h.player

-- the process of a handle, and its calls
abbrev pub process_of : Handle → ProcessView
process_of h = h.player.actor.process

abbrev pub calls_of : Handle → CallsView
calls_of h = h.player.source

-- A call of this command came to this: the process did what the command does at the next line, and the call is
-- counted if it ran, and so is its request. It is the same rank.
pub record HasCalled (x : Command) (a b : Handle) (step : Step) : Type 0 where
  pub stepped : HasStepped x ((calls_of a).at + 2) (process_of a) (process_of b) step
  pub calls : calls_of b ≡ counted (calls_of a) x step
  pub opened : b.state ≡ state.Open
  pub live : b.live ≡ live_called step (last_answer (process_of b).rank.events) a.live
  pub same : IsSameRank a b

-- A command was put ahead: nothing else is otherwise.
pub record HasGiven (x : Command) (a b : Handle) : Type 0 where
  pub process : process_of b ≡ process_of a
  pub calls : calls_of b ≡ record (calls_of a) { next = Some x }
  pub state : b.state ≡ a.state
  pub live : b.live ≡ a.live
  pub same : IsSameRank a b

-- A turn was made: what happened goes on, and the calls are those that were made or put ahead before. The request of
-- one that was ahead, and ran, is counted by the last answer. It is the same rank.
pub record HasTurned (a b : Handle) : Type 0 where
  pub plays : PlaysOn shown gave (arc_value a.fabric) (arc_value a.rings) a.player b.player
  pub state : b.state ≡ a.state
  pub live :
      b.live ≡ live_turned (is_some (calls_of a).next) (is_some (calls_of b).next)
      (last_answer (process_of b).rank.events) a.live
  pub same : IsSameRank a b

-- why a call was refused
pub data IsCause (h : Handle) (x : Command) (e : Fault) : Type 0 where
  closed : e ≡ fault.Closed → h.state ≡ state.Closed → IsCause h x e
  failed : e ≡ fault.Failed → h.state ≡ state.Failed → IsCause h x e
  waits : e ≡ fault.Waits → IsSome (calls_of h).next → IsCause h x e
  range : IsOutOfRange (calls_of h).ranks x e → IsCause h x e
  worn :
      e ≡ fault.Worn → (¬ IsFresh (process_of h).rank) ⊎ (18446744073709551610 ≤ (calls_of h).at) → IsCause h x e
  memory : e ≡ fault.Memory → IsCause h x e

-- rank k of a world of this shape, of which no call ran
pub record IsNewAt (shape : Sizes) (k : ℕ) (h : Handle) : Type 0 where
  pub stands : Stands h
  pub opened : h.state ≡ state.Open
  pub calls : calls_of h ≡ record { ranks = shape.ranks; at = 0; given = []; next = None }
  pub me : (process_of h).rank.me ≡ k
  pub sizes : (process_of h).rank.sizes ≡ shape
  pub events : (process_of h).rank.events ≡ []
  pub live : h.live ≡ 0

-- these are the ranks of a world of this shape from rank k on, of which no call ran
abbrev pub AreNew : Sizes → ℕ → List Handle → Type 0
AreNew shape k [] = Unit {0}
AreNew shape k (h ∷ hs) = IsNewAt shape k h × AreNew shape (k + 1) hs
