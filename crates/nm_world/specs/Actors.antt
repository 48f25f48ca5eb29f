-- How an actor stands: its process, its ports, and what was.
use Rattle.std.specs.Prelude.{◌≡◌, ℕ, ◌+◌, ◌<◌, ◌≤◌, Bool, nat_lt, List, ◌++◌, length, map, slice_index}
use Rattle.nm_types.specs.Commands.{Numbered}
use Rattle.nm_types.specs.Sizes.{Sizes}
use Rattle.nm_channels.specs.Moments.{pulled_from as pulled_in, taken_from as taken_in}
use Rattle.nm_history.specs.declared.events.Event.{Event}
use Rattle.nm_chain.specs.declared.table.table.Misses.{Misses}
use Rattle.nm_chain.specs.Plays.{missed_of}
use Rattle.nm_chain.specs.OwnQueues.{OwnQueue}
use Rattle.nm_chain.specs.Total.{total}
use Rattle.nm_cells.specs.declared.port.Fabric.{Fabric}
use Rattle.nm_cells.specs.declared.port.Port.{Port}
use Rattle.nm_cells.specs.Ports.{Owns, knows, sent_by, taken_by}
use Rattle.nm_port.specs.Polls.{HoldsTheRest}
use Rattle.nm_copyring.specs.declared.port.RingPort.{RingPort}
use Rattle.nm_copyring.specs.declared.port.Rings.{Rings}
use Rattle.nm_copyring.specs.declared.table.Lane.{Lane}
use Rattle.nm_copyring.specs.Rule.{lane}
use Rattle.nm_copyring.specs.Ports as ring
use Rattle.nm_port.specs.CarriedPackets.{HasPassed, HasSent}
use Rattle.nm_global.specs.ProcessInvariant.{IsOf, GhostHistory}
use Rattle.nm_process.specs.Work.{IsWorking}
use Rattle.nm_world.specs.Parcels.{packet_of}
use Rattle.nm_world.specs.declared.actors.Actor.{Actor}
use Rattle.nm_types.specs.declared.packets.Packet.{Packet}

-- An actor's process is at work on these commands, none of those that ran has a line past `last`, and it
-- stands at its place in a run of them, where its ports carried what was: the packets that left are those
-- that its port sent, by number, those that its port passed on are those that it took, and so it is with
-- the pieces.
pub record IsActor {H : Type 0} (shape : Sizes) (commands : List Numbered) (last : ℕ) (a : Actor H)
    (past : GhostHistory)
    : Type 0 where
  pub work : IsWorking shape commands (last + 1) a.process
  pub stands : IsOf shape commands a.port.rank a.process.rank past
  pub sent : (to : ℕ) → to < shape.ranks → HasSent packet_of (knows a.port) to (past.left to).packets
  pub taken :
      (from : ℕ) → from < shape.ranks →
      HasPassed packet_of (knows a.port) (taken_by a.port from) from
      (map (λ t. t.packet) (taken_in from past.log))
  pub pushed :
      (to : ℕ) → to < shape.ranks → (past.left to).pieces ≡ ring.pushed_to a.ring to
  pub pulled :
      (from : ℕ) → from < shape.ranks →
      map (λ d. d.piece) (pulled_in from past.log) ≡ ring.pulled_from a.ring from

-- there is what was
pub record ActorInvariant {H : Type 0} (commands : List Numbered) (last : ℕ) (a : Actor H) : Type 0 where
  pub past : GhostHistory
  pub is : IsActor a.process.rank.sizes commands last a past

-- it stands so at some commands
pub record StandsSome {H : Type 0} (a : Actor H) : Type 0 where
  pub commands : List Numbered
  pub last : ℕ
  pub stands : ActorInvariant commands last a

-- an actor's ports are those of its rank in this fabric and these rings
pub record HasPorts {H : Type 0} (f : Fabric Packet) (r : Rings) (a : Actor H) : Type 0 where
  pub some : StandsSome a
  pub cells : Owns f a.port
  pub rings : ring.Owns r a.ring
  pub rank : a.ring.rank ≡ a.port.rank
  pub ranks : (f.ranks ≡ a.process.rank.sizes.ranks) × (r.ranks ≡ a.process.rank.sizes.ranks)
  pub hands : a.port.hands ≡ 0
  pub rest : HoldsTheRest a.port

-- no count of the misses of a queue falls
pub record MissesGrow (x y : Misses) : Type 0 where
  pub head : x.head_empty ≤ y.head_empty
  pub link : x.link_missing ≤ y.link_missing

-- What a port knows later: nothing that it sent or passed on is lost, and no count of misses falls.
pub record PortGrows (p q : Port Packet) : Type 0 where
  pub sent : (j : ℕ) → sent_by p j ≤ sent_by q j
  pub taken : (i : ℕ) → taken_by p i ≤ taken_by q i
  pub full : (j : ℕ) → slice_index (knows p).box_full j ≤ slice_index (knows q).box_full j
  pub missed : (i : ℕ) → slice_index (knows p).box_miss i ≤ slice_index (knows q).box_miss i
  pub queues : (b : OwnQueue) → MissesGrow (missed_of b (knows p)) (missed_of b (knows q))

-- so it is with what a ring port has of another rank
pub record LaneGrows (x y : Lane) : Type 0 where
  pub pushed : length x.pushed ≤ length y.pushed
  pub pulled : length x.pulled ≤ length y.pulled
  pub full : x.full ≤ y.full
  pub empty : x.empty ≤ y.empty

-- and with all that a ring port has
abbrev pub RingGrows : RingPort → RingPort → Type 0
RingGrows p q = (k : ℕ) → LaneGrows (lane (ring.knows p) k) (lane (ring.knows q) k)

-- and with an actor, whose history goes on
pub record Grows {H : Type 0} (a b : Actor H) : Type 0 where
  pub events : (more : List Event) × (b.process.rank.events ≡ a.process.rank.events ++ more)
  pub port : PortGrows a.port b.port
  pub ring : RingGrows a.ring b.ring

-- whose actor it is, and in a run of which sizes
pub record Seat : Type 0 where
  pub rank : ℕ
  pub sizes : Sizes

-- the seat of an actor
abbrev pub seat_of : {H : Type 0} → Actor H → Seat
seat_of a = record { rank = a.port.rank; sizes = a.process.rank.sizes }

-- what an actor stands in: the fabric and the rings of its run
pub record Environment : Type 0 where
  pub fabric : Fabric Packet
  pub rings : Rings

-- it is the same actor, it goes on from where it was, and whatever commands it stood at, it does still
pub record Continues {H : Type 0} (f : Fabric Packet) (r : Rings) (a b : Actor H) : Type 0 where
  pub ports : HasPorts f r b
  pub stands :
      (commands : List Numbered) (last : ℕ) → ActorInvariant commands last a → ActorInvariant commands last b
  pub seat : seat_of b ≡ seat_of a
  pub grows : Grows a b

-- how much an actor has done among n ranks: its events, and what its ports sent, passed on,
-- pushed and pulled
abbrev pub done_by : {H : Type 0} → ℕ → Actor H → ℕ
done_by n a =
    length a.process.rank.events + total n (λ j. sent_by a.port j)
    + total n (λ i. taken_by a.port i) + total n (λ j. length (ring.pushed_to a.ring j))
    + total n (λ i. length (ring.pulled_from a.ring i))

-- whether an actor did something between two moments
abbrev pub did : {H : Type 0} → ℕ → Actor H → Actor H → Bool
did n a b = nat_lt (done_by n a) (done_by n b)

-- something grew: the history, or what the ports sent, passed on, pushed or pulled
pub data Grew {H : Type 0} (n : ℕ) (a b : Actor H) : Type 0 where
  events : length a.process.rank.events < length b.process.rank.events → Grew n a b
  sent : (j : ℕ) → j < n → sent_by a.port j < sent_by b.port j → Grew n a b
  taken : (i : ℕ) → i < n → taken_by a.port i < taken_by b.port i → Grew n a b
  pushed :
      (j : ℕ) → j < n → length (ring.pushed_to a.ring j) < length (ring.pushed_to b.ring j) → Grew n a b
  pulled :
      (i : ℕ) → i < n → length (ring.pulled_from a.ring i) < length (ring.pulled_from b.ring i) →
      Grew n a b
