-- The arrival of a message that goes to a receive which can take no other rank's is enough, too.
use Rattle.std.specs.Prelude.{◌≡◌, ◌⊎◌, ℕ, ◌<◌, ◌==◌, ◌&&◌, ◌||◌, Bool, true, false, not, Option, Some, List}
use Rattle.std.specs.List.{list_all, slice_get, slice_set}
use Rattle.nm_types.specs.declared.messages.Arrival.{Arrival}
use Rattle.nm_types.specs.declared.messages.Peer.TheVariants as peer
use Rattle.nm_types.specs.declared.scripts.Command.{Command}
use Rattle.nm_types.specs.declared.scripts.Command.TheVariants as command
use Rattle.nm_types.specs.declared.scripts.Line.{Line}
use Rattle.nm_history.specs.Selection.{matches_tag}
use Rattle.nm_outcomes.specs.declared.spots.deeds.Receive.{Receive}
use Rattle.nm_outcomes.specs.RankStates.{Spot, arrived_at, receive_of_spot}
use Rattle.nm_explored.specs.declared.choices.moves.Move.TheVariants as move
use Rattle.nm_explored.specs.declared.choices.moves.Turn.{Turn}
use Rattle.nm_explored.specs.Successors.{message_next}
use Rattle.nm_search.specs.Lists.{Has}
use Rattle.nm_explored.specs.Moves.{AreMovesOf}
use Rattle.nm_explored.specs.Apart.{AreMovesOfGroup, LetsPart, Parts}
use Rattle.nm_explored.specs.Chosen.{Acts, AreActsOfOne, LetsAct}
use Rattle.nm_explored.specs.Orderly.{HasNoClaim, IsOrderlyAt}
use Rattle.nm_explored.specs.Started.{AreCalm, AreStarted, HasNoRecall, IsSpared}

-- a command sends a message to rank i that a receive there selects, whatever rank the receive names
abbrev pub may_send : ℕ → Receive → Command → Bool
may_send i r (command.Send to q tag ctx sync body) = to == i && (r.ctx == ctx && matches_tag r.tag tag)
may_send i r _ = false

-- no line of a rank but this one sends such a message
abbrev pub HasNoOtherSender : List Line → ℕ → ℕ → Receive → Type 0
HasNoOtherSender lines i from r =
    list_all (λ line. line.rank == from || not (may_send i r line.command)) lines ≡ true

-- a receive of rank i takes messages of this rank alone: it names it (MPI 3.1, 3.2.4), or no other rank sends one that
-- it selects
abbrev pub TakesOnlyFrom : List Line → ℕ → ℕ → Receive → Type 0
TakesOnlyFrom lines i from r = (r.from ≡ peer.One from) ⊎ HasNoOtherSender lines i from r

-- .. and no command of rank i is in their way: none cancels it, none is a matched probe or a matched receive
pub record TakesSurely (lines : List Line) (i from : ℕ) (r : Receive) : Type 0 where
  pub only : TakesOnlyFrom lines i from r
  pub no_claim : HasNoClaim lines i
  pub spared : IsSpared lines i r

-- this is the next message from a rank, and goes to such a receive
pub record IsNamed (ranks : ℕ) (lines : List Line) (v : ℕ → Option Spot) (i from : ℕ) (a : Arrival) : Type 0 where
  pub inside : i < ranks
  pub low : from < ranks
  pub spot : Spot
  pub here : v i ≡ Some spot
  pub next : message_next v i from ≡ Some a
  pub receive : Receive
  pub to : receive_of_spot spot a ≡ Some receive
  pub named : TakesSurely lines i from receive

-- In these states of all ranks it is enough that this message arrives: in a script without recalls.
pub record LetsCome (ranks : ℕ) (lines : List Line) (i from : ℕ) (s : List Spot) : Type 0 where
  pub no_recall : HasNoRecall lines
  pub started : AreStarted lines s
  pub calm : AreCalm s
  pub orderly : IsOrderlyAt i s
  pub arrival : Arrival
  pub is : IsNamed ranks lines (λ k. slice_get s k) i from arrival

-- the next message from a rank arrives
abbrev pub Comes : ℕ → ℕ → List Spot → List Spot → Type 0
Comes i from s u =
    (spot : Spot) × (slice_get s i ≡ Some spot) × (a : Arrival) × (message_next (λ k. slice_get s k) i from ≡ Some a)
    × (u ≡ slice_set s i (arrived_at spot a))

-- which moves are made at a state, and the others wait: those of the next command of a rank, the arrival of the
-- next message from a rank, or those of a group of ranks
pub data Choice : Type 0 where
  Acting : (i : ℕ) → Choice
  Arriving : (i from : ℕ) → Choice
  Parting : (groups : List ℕ) (g : ℕ) → Choice

-- in these states of all ranks they are enough
abbrev pub AreEnoughAt : ℕ → List Line → Choice → List Spot → Type 0
AreEnoughAt ranks lines (Acting i) s = LetsAct ranks lines i s
AreEnoughAt ranks lines (Arriving i from) s = LetsCome ranks lines i from s
AreEnoughAt ranks lines (Parting groups g) s = LetsPart ranks lines groups g s

-- one of them is made
abbrev pub Makes : ℕ → ℕ → List Line → Choice → List Spot → List Spot → Type 0
Makes eager ranks lines (Acting i) s u = Acts eager lines i s u
Makes eager ranks lines (Arriving i from) s u = Comes i from s u
Makes eager ranks lines (Parting groups g) s u = Parts eager ranks lines groups g s u

-- a message that goes to such a receive arrives
abbrev pub IsNamedTurn : ℕ → List Line → (ℕ → Option Spot) → Turn → Type 0
IsNamedTurn ranks lines v t =
    (a : Arrival) × (from : ℕ) × IsNamed ranks lines v t.rank from a × (t.by ≡ move.Arrive a)

-- such an arrival is among these
pub record HasNamed (ranks : ℕ) (lines : List Line) (v : ℕ → Option Spot) (turns : List Turn) : Type 0 where
  pub no_recall : HasNoRecall lines
  pub turn : Turn
  pub is : IsNamedTurn ranks lines v turn
  pub has : Has turns turn

-- These moves are enough: all are among them, or all of the next command of one rank, which is settled, or
-- the arrival of a message that goes to a receive which can take no other rank's, or all of a group of ranks.
abbrev pub AreEnoughTurns : ℕ → ℕ → List Line → (ℕ → Option Spot) → List Turn → Type 0
AreEnoughTurns eager ranks lines v turns =
    ((i : ℕ) → i < ranks → AreMovesOf eager ranks lines v i turns)
    ⊎ (AreActsOfOne eager ranks lines v turns
    ⊎ (HasNamed ranks lines v turns ⊎ AreMovesOfGroup eager ranks lines v turns))
