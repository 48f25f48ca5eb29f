-- Actors at rest, and what their ports carried.
use Rattle.std.specs.Prelude.{◌≡◌, ℕ, ◌<◌, true, false, Option, Some, IfSome, IsSome, List, [], length, map}
use Rattle.std.specs.List.{slice_get}
use Rattle.nm_types.specs.Commands.{Numbered}
use Rattle.nm_types.specs.Sizes.{Sizes}
use Rattle.nm_history.specs.Outgoing.{AreCalled, AreCalledPieces, outgoing, ring}
use Rattle.nm_history.specs.Quiescence.{Ended, IsStopped as StandsAt, packets_of_by}
use Rattle.nm_history.specs.Run.{IsRunBy}
use Rattle.nm_history.specs.Sends.{sent_body}
use Rattle.nm_history.specs.Clearance.{pushed_out, to_push}
use Rattle.nm_history.specs.Rest.{EagerHaveLeft, EmptyAreHere}
use Rattle.nm_history.specs.Rules.{AreRight}
use Rattle.nm_rndv.specs.Offers.{AllOut, next_offered}
use Rattle.nm_rank.specs.Ranks.{IsFresh, known_from}
use Rattle.nm_process.specs.Processes.{ProcessView}
use Rattle.nm_process.specs.Steps.{goes_on}
use Rattle.nm_rank.specs.Journals.{IsJournal}
use Rattle.nm_cells.specs.declared.closed.Closed.{Closed}
use Rattle.nm_cells.specs.declared.port.Port.{Port}
use Rattle.nm_cells.specs.ClosedLists.{entries, sent_list, taken_list}
use Rattle.nm_cells.specs.PathLists.{Begins}
use Rattle.nm_cells.specs.Ports.{knows, sent_by, taken_by}
use Rattle.nm_copyring.specs.declared.close.RingAccount.{RingAccount}
use Rattle.nm_copyring.specs.declared.port.RingPort.{RingPort}
use Rattle.nm_copyring.specs.AtClose.{Prefixed}
use Rattle.nm_copyring.specs.ClosedLists as closed_ring
use Rattle.nm_copyring.specs.Ports as ring_port
use Rattle.nm_global.specs.Ranks.{HasNothingToSend}
use Rattle.nm_global.specs.ProcessInvariant.{GhostHistory, rank_of}
use Rattle.nm_world.specs.Parcels.{packet_of}
use Rattle.nm_world.specs.declared.actors.Actor.{Actor}
use Rattle.nm_world.specs.Actors.{IsActor}
use Rattle.nm_types.specs.declared.packets.Packet.{Packet}

-- the actor of rank i has nothing left to send, and is at the end of these commands or waits for what can't
-- come
pub record EndsAt {H : Type 0} (shape : Sizes) (commands : List Numbered) (i : ℕ) (a : Actor H) : Type 0 where
  pub last : ℕ
  pub past : GhostHistory
  pub is : IsActor shape commands last a past
  pub me : a.port.rank ≡ i
  pub right : AreRight shape.ranks [] a.process.rank.events
  pub stamped : IsJournal a.process.rank.events a.process.rank.clock
  pub resting : HasNothingToSend (rank_of a.process past)
  pub waits : Option ℕ
  pub stands :
      StandsAt commands
      (record { at = a.process.at; waits = waits; events = a.process.rank.events })

-- An actor can move where its rank is worn, a letter or a piece is left to send, or there is a command
-- left of these that can go on.
pub data CanMove (commands : List Numbered) (v : ProcessView) : Type 0 where
  worn : ¬ IsFresh v.rank → CanMove commands v
  letter : 0 < length v.rank.sending.outbox.letters → CanMove commands v
  piece : IsSome (next_offered v.rank.sending.offers) → CanMove commands v
  command : goes_on commands v ≡ true → CanMove commands v

-- nothing is left to send, and there is none of these commands that can go on
pub record IsStill (commands : List Numbered) (v : ProcessView) : Type 0 where
  pub right : AreRight v.rank.sizes.ranks [] v.rank.events
  pub stamped : IsJournal v.rank.events v.rank.clock
  pub empty : EmptyAreHere v.rank.events
  pub fresh : IsFresh v.rank
  pub outbox : v.rank.sending.outbox.letters ≡ []
  pub eager : EagerHaveLeft v.rank.events
  pub pieces : AllOut v.rank.sending.offers
  pub cleared :
      (to : ℕ) → to < v.rank.sizes.ranks →
      pushed_out v.rank.events to ≡ to_push v.rank.events (known_from v.rank.known to) to
  pub stuck : goes_on commands v ≡ false

-- R holds of each of these and its number
abbrev pub Each : {A : Type 0} → (ℕ → A → Type 0) → List A → Type 0
Each R xs = (i : ℕ) → IfSome (slice_get xs i) (R i)

-- what `Fabric::close` ensures, as far as this needs it
pub record IsClosed (n : ℕ) (ports : List (Port Packet)) (c : Closed Packet) : Type 0 where
  pub entries : entries c ≡ map knows ports
  pub counts :
      (k j : ℕ) (p : Port Packet) → slice_get ports k ≡ Some p → j < n →
      (length (sent_list c k j) ≡ sent_by p j) × (length (taken_list c j k) ≡ taken_by p j)
  pub prefix :
      (i j : ℕ) → i < n → j < n → Begins (taken_list c i j) (sent_list c i j)

-- what `Rings::close` ensures
pub record IsRingClosed (n : ℕ) (ports : List RingPort) (q : RingAccount) : Type 0 where
  pub entries : closed_ring.entries q ≡ map ring_port.knows ports
  pub prefix : Prefixed n (closed_ring.entries q)

-- what each actor sent to each other was taken there
pub record IsAllTaken {H : Type 0} (actors : List (Actor H)) : Type 0 where
  pub packets :
      (i j : ℕ) (a b : Actor H) → slice_get actors i ≡ Some a → slice_get actors j ≡ Some b →
      sent_by a.port j ≡ taken_by b.port i
  pub pieces :
      (i j : ℕ) (a b : Actor H) → slice_get actors i ≡ Some a → slice_get actors j ≡ Some b →
      length (ring_port.pushed_to a.ring j) ≡ length (ring_port.pulled_from b.ring i)

-- What the closed ports carried from i to j is what these events of i, whose commands these are, call for.
pub record IsCarried (commands : List Numbered) (c : Closed Packet) (q : RingAccount) (i j : ℕ) (rank : Ended)
    : Type 0 where
  pub packets :
      AreCalled i 0 (outgoing (sent_body commands) rank.events j)
      (map packet_of (sent_list c i j))
  pub taken : taken_list c i j ≡ sent_list c i j
  pub pieces :
      AreCalledPieces i 0 (ring (sent_body commands) rank.events j)
      (closed_ring.pushed_list q i j)
  pub pulled : closed_ring.pulled_list q i j ≡ closed_ring.pushed_list q i j

-- the end of an actor, as it is recorded
abbrev pub ended : {H : Type 0} → Actor H → Option ℕ → Ended
ended a waits = record { at = a.process.at; waits = waits; events = a.process.rank.events }

-- These are the ends of the actors, they are a run of these commands by rank, and the ports carried what
-- they call for, and all that.
pub record HasRun {H : Type 0} (shape : Sizes) (commands : ℕ → List Numbered) (actors : List (Actor H))
    (c : Closed Packet)
    (q : RingAccount) (ends : List Ended) : Type 0 where
  pub are :
      (i : ℕ) (a : Actor H) → slice_get actors i ≡ Some a →
      IfSome (slice_get ends i) (λ e. (e.at ≡ a.process.at) × (e.events ≡ a.process.rank.events)
      × StandsAt (commands i) e)
  pub events : map (λ e. e.events) ends ≡ map (λ a. a.process.rank.events) actors
  pub run : IsRunBy shape commands ends (packets_of_by commands ends)
  pub carried :
      (i j : ℕ) → j < shape.ranks → IfSome (slice_get ends i) (IsCarried (commands i) c q i j)
