-- What a port knows, has in hand and counts, in the words of contracts.
use Rattle.std.specs.Prelude.{◌≡◌, ◌≢◌, ℕ, suc, ◌+◌, ◌*◌, ◌/◌, ◌<◌, ◌≤◌, ◌↔◌, Bool, true, false}
use Rattle.std.specs.Prelude.{Some, None, IsSome, List, [], ◌∷◌, length}
use Rattle.nm_types.specs.declared.limits.TheConstants.{MAX_PACKETS}
use Rattle.nm_chain.specs.declared.table.parcels.Parcel.{Parcel}
use Rattle.nm_chain.specs.Update.{update}
use Rattle.nm_chain.specs.declared.table.table.Hand.TheVariants.{Away, Entering}
use Rattle.nm_chain.specs.declared.table.table.Entry.{Entry}
use Rattle.nm_cells.specs.declared.port.Port.{Port}
use Rattle.nm_cells.specs.declared.port.Fabric.{Fabric}
use Rattle.nm_cells.specs.declared.cell.Cell.{Cell}
use Rattle.nm_cells.specs.declared.cell.Pending as pending
use Rattle.nm_cells.specs.declared.cell.Queue as queues
use Rattle.nm_cells.specs.declared.cell.Queue.TheVariants.{Receive, Free}
use Rattle.nm_chain.specs.declared.table.table.Look.{Look}
use Rattle.nm_chain.specs.Rule.{Load, hand, sender, number, sent_to}
use Rattle.nm_chain.specs.Rule.{emptying_of}
use Rattle.nm_chain.specs.Rule.{newcomer}
use Rattle.nm_chain.specs.Plays.{mine, InHand, heads_of, taken, box_load}
use Rattle.nm_chain.specs.Looks.{look_in}
use Rattle.nm_chain.specs.OwnQueues.{OwnQueue, receive_queue, free_queue}
use Rattle.nm_cells.specs.Carried.{held_in}
use Rattle.nm_cells.specs.LooseCells.{IsAmong}
use Rattle.nm_cells.specs.declared.tallies.Tally.{Tally}
use Rattle.nm_cells.specs.Counted.{peer_in, all_unpassed, IsUnpassedOf, with_peer, one_sent}

module _ {A : Type 0} where
  -- what the port's seat knows
  abbrev pub knows : Port A → Entry A
  knows p = mine p.seat.me

  -- the port is one of the fabric's
  abbrev pub Owns : Fabric A → Port A → Type 0
  Owns f p = (p.seat.table_id ≡ f.board.shared.table_id) × (p.rank < f.ranks)
      × ((knows p).ranks ≡ f.ranks)
      × ((knows p).each ≡ f.each) × (length (knows p).hands ≡ f.ranks * f.each)
      × (length (knows p).filling ≡ f.ranks) × (length (knows p).emptying ≡ f.ranks)

  -- the slots of the port, the one taken last first
  abbrev pub slots : Port A → List (ℕ × Load A)
  slots p = p.seat.me.1

  -- what a cell in the port's hand holds
  abbrev pub holding : Port A → ℕ → Load A
  holding p = held_in (length (knows p).hands) (slots p)

  -- the parcels that the port sent to the rank j
  abbrev pub sent_by : Port A → ℕ → ℕ
  sent_by p j = sent_to j (knows p).put_box (knows p).put

  -- the parcels of the rank i that the port passed on
  abbrev pub taken_by : Port A → ℕ → ℕ
  taken_by p i = (peer_in p.peers.items i).taken

  -- the parcels that the port took from its receive queue and didn't pass on
  abbrev pub unpassed_by : Port A → ℕ
  unpassed_by p = all_unpassed p.peers.items

  -- this parcel is one of them
  abbrev pub IsUnpassed : Port A → Parcel A → Type 0
  IsUnpassed p x = IsUnpassedOf (knows p).ranks (knows p).got p.peers.items x

  -- what is passed on, held and not passed on stays
  abbrev pub SameTaken : Port A → Port A → Type 0
  SameTaken old new = (taken_by new ≡ taken_by old) × (new.held ≡ old.held)
      × (unpassed_by new ≡ unpassed_by old)

  -- what the last steps on an own queue told of its first cell
  abbrev pub look_of : OwnQueue → Port A → Look
  look_of b p = look_in b (knows p).looks

  -- the cell is one of the port's loose ones
  abbrev pub IsLoose : Port A → ℕ → Type 0
  IsLoose p c = IsAmong p.loose c

  -- The fabric's port of the same rank, which passed on, holds and has to pass on the same parcels, and
  -- whose loose cells are the same
  abbrev pub Stays : Fabric A → Port A → Port A → Type 0
  Stays f old new = Owns f new × (new.rank ≡ old.rank) × SameTaken old new × (new.loose ≡ old.loose)

  -- No cell was taken from an own queue: the cells in hand are the same and hold the same
  pub record Leaves (old new : Port A) : Type 0 where
    pub hands : new.hands ≡ old.hands
    pub holding : holding new ≡ holding old
    pub taken : SameTaken old new
    pub loose : new.loose ≡ old.loose

  -- how many cells the fabric has
  abbrev pub cells_of : Fabric A → ℕ
  cells_of f = f.ranks * f.each

  -- the cell is in the port's hand, and not loose
  abbrev pub HasCell : Fabric A → Port A → Cell → Type 0
  HasCell f p c = (c.number < cells_of f) × (c.owner ≡ c.number / f.each)
      × InHand (hand (knows p) c.number) × (¬ IsLoose p c.number)

-- the queue's number: the receive queues come first
abbrev pub queue_of : ℕ → queues.Queue → ℕ
queue_of n (Receive r) = r
queue_of n (Free r) = n + r

-- the rank whose queue it is
abbrev pub rank_of_queue : queues.Queue → ℕ
rank_of_queue (Receive r) = r
rank_of_queue (Free r) = r

-- which one of its rank's two queues it is
abbrev pub own_of : queues.Queue → OwnQueue
own_of (Receive r) = receive_queue
own_of (Free r) = free_queue

module _ {A : Type 0} where
  -- the queue is the port's own
  abbrev pub IsOwn : Port A → queues.Queue → Type 0
  IsOwn p q = rank_of_queue q ≡ p.rank

  -- the port is between the exchange and the last store of this enqueue
  abbrev pub Awaits : Fabric A → Port A → pending.Pending → Type 0
  Awaits f p e = (e.cell < cells_of f) × (e.queue < 2 * f.ranks)
      × (hand (knows p) e.cell ≡ Entering e.queue e.found)
      × (e.found ≤ cells_of f)

  -- The cell may go into this queue with what it holds: into a receive queue the port's own cells, with
  -- its next parcel for that rank; into a free queue the empty cells of its rank
  abbrev pub MayJoin : Fabric A → Port A → queues.Queue → ℕ → Load A → Type 0
  MayJoin f p (Receive j) c y = (j < f.ranks) × (c / f.each ≡ p.rank) × (sender y ≡ suc p.rank)
      × (number y ≡ sent_by p j)
  MayJoin f p (Free j) c y = (j < f.ranks) × (c / f.each ≡ j) × (y ≡ None)

  -- what is put by an enqueue of this load
  abbrev pub posted_in : queues.Queue → Load A → List (ℕ × Load A)
  posted_in (Receive j) y = (j, y) ∷ []
  posted_in (Free j) y = []

-- 1 where a dequeue of the queue takes a parcel
abbrev pub arrivals : OwnQueue → ℕ
arrivals receive_queue = 1
arrivals free_queue = 0

module _ {A : Type 0} where
  -- The first cell of an own queue is in hand, with what it holds: a parcel of its owner, or from the
  -- free queue none
  pub record Takes (b : OwnQueue) (f : Fabric A) (old new : Port A) (c : Cell) : Type 0 where
    pub has : HasCell f new c
    pub of_rank : c.owner < f.ranks
    pub first : 0 < (heads_of b (knows old)).shadow
        → c.number + 1 ≡ (heads_of b (knows old)).shadow
    pub fresh : hand (knows old) c.number ≡ Away
    pub full : b ≡ receive_queue → (sender (holding new c.number) ≡ suc c.owner)
        × IsSome (holding new c.number)
    pub arrived : b ≡ receive_queue → (x : Parcel A) → holding new c.number ≡ Some x → IsUnpassed new x
    pub vacant : b ≡ free_queue → (holding new c.number ≡ None) × (c.owner ≡ old.rank)
    pub knows : knows new ≡ taken b c.number (holding new c.number) (heads_of b (knows new)).shadow
        (knows old)
    pub holding : holding new ≡ update (holding old) c.number (holding new c.number)
    pub taken : taken_by new ≡ taken_by old
    pub held : new.held ≡ old.held
    pub unpassed : unpassed_by new ≡ unpassed_by old + arrivals b
    pub hands : new.hands ≡ old.hands + 1
    pub loose : new.loose ≡ old.loose

  -- The port's lowest loose cell is in its hand, empty, and no longer loose; the others are loose still
  pub record Frees (old new : Port A) (c : Cell) : Type 0 where
    pub was : IsLoose old c.number
    pub lowest : (d : ℕ) → IsLoose old d → c.number ≤ d
    pub own : c.owner ≡ old.rank
    pub has : (f : Fabric A) → Owns f old → HasCell f new c
    pub vacant : holding new c.number ≡ None
    pub others : (d : ℕ) → IsLoose new d ↔ (IsLoose old d × (d ≢ c.number))

  -- the port of the rank k at the start, but for its own cells
  abbrev pub IsFresh : Fabric A → Port A → ℕ → Type 0
  IsFresh f p k = Owns f p × (p.rank ≡ k)
      × (knows p ≡ record (newcomer f.ranks f.each k) { hands = (knows p).hands })
      × ((c : ℕ) → c < cells_of f → c / f.each ≢ k → hand (knows p) c ≡ Away)
      × ((i : ℕ) → taken_by p i ≡ 0) × (p.held ≡ None) × (unpassed_by p ≡ 0)

  -- the port of the rank k at the start, whose own cells are all loose
  abbrev pub IsNewLoose : Fabric A → Port A → ℕ → Type 0
  IsNewLoose f p k = IsFresh f p k × (p.hands ≡ f.each)
      × ((c : ℕ) → c < cells_of f → IsLoose p c ↔ (c / f.each ≡ k))

  -- the port of the rank k at the start, whose own cells are all in its free queue
  abbrev pub IsNew : Fabric A → Port A → ℕ → Type 0
  IsNew f p k = Owns f p × (p.rank ≡ k) × (knows p ≡ newcomer f.ranks f.each k) × (slots p ≡ [])
      × (p.hands ≡ 0)
      × ((i : ℕ) → taken_by p i ≡ 0) × (p.held ≡ None) × (unpassed_by p ≡ 0)
      × ((c : ℕ) → ¬ IsLoose p c)

  -- the one or the other
  abbrev pub Begins : Bool → Fabric A → Port A → ℕ → Type 0
  Begins true f p k = IsNewLoose f p k
  Begins false f p k = IsNew f p k

  -- the port is taking the parcel with the number a from its next box of the rank i
  abbrev pub Empties : Port A → ℕ → ℕ → Type 0
  Empties p i a = (emptying_of (knows p) i ≡ Some (box_load i (knows p)))
      × (number (box_load i (knows p)) ≡ a)
      × (sender (box_load i (knows p)) ≡ suc i)

-- how many more things are in hand once a box is at work that was, or was not, at work before
abbrev pub opens : Bool → ℕ
opens true = 0
opens false = 1

-- the one list, or where it is so the other
abbrev pub unless : Bool → List ℕ → List ℕ → List ℕ
unless true xs ys = ys
unless false xs ys = xs

-- what is counted once a cell is put into this queue
abbrev pub sent_into : queues.Queue → List Tally → List Tally
sent_into (Receive j) peers = with_peer one_sent j peers
sent_into (Free j) peers = peers

-- there is room to count it
abbrev pub HasRoomFor : queues.Queue → List Tally → Type 0
HasRoomFor (Receive j) peers = (j < length peers) × ((peer_in peers j).sent < MAX_PACKETS)
HasRoomFor (Free j) peers = Unit {0}
