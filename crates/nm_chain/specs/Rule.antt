-- The rule of the fabric.
-- Of n ranks, the receive queue of the rank r is the queue r, and its free queue is the queue n + r. The words are
-- the heads of all queues, their tails, the links of all cells, and the flags of all boxes.
use Rattle.std.specs.Prelude.{Bool, true, false, map, ◌≡◌, ◌≢◌, ℕ, zero, suc, ◌+◌, ◌*◌, ◌/◌}
use Rattle.std.specs.Prelude.{◌<◌, ◌≤◌, List, [], ◌∷◌, ◌++◌, length, slice_index, slice_index_or}
use Rattle.std.specs.Prelude.{Option, Some, None, replicate}
use mathlib.Core.Option as maybe
use native.Mathlib.Decide.{ℕ_discrete, dec_le}
use lib.ListN.{get_elem?}
use Rattle.atomic_table.specs.Table.{State}
use Rattle.nm_chain.specs.declared.seats.views.View.{View}
use Rattle.nm_chain.specs.Spoken.{view, Spoken}
use Rattle.nm_chain.specs.Chain as chain
use Rattle.nm_chain.specs.Sequence.{InSequence}
use Rattle.nm_chain.specs.Window.{Window}
use Rattle.nm_chain.specs.declared.table.parcels.Parcel.{Parcel}
use Rattle.nm_types.specs.Sizes.{Sizes}
use Rattle.nm_chain.specs.declared.table.table.Hand.{Hand}
use Rattle.nm_chain.specs.declared.table.table.Hand.TheVariants.{Away, Loose, Held, Ready, Entering}
use Rattle.nm_chain.specs.declared.table.table.Heads.{Heads}
use Rattle.nm_chain.specs.declared.table.table.Misses.{Misses}
use Rattle.nm_chain.specs.declared.table.table.Entry.{Entry}
use Rattle.nm_chain.specs.Looks.{StillTold, no_looks}
use Rattle.nm_chain.specs.Update.{pick}

-- what a slot holds: a parcel, or nothing
abbrev pub Load : Type 0 → Type 0
Load A = Option (Parcel A)

-- where a cell is
abbrev pub Place : Type 0 → Type 0
Place A = chain.Place (Load A)

-- the cells of a queue in order, with what they hold
abbrev pub Chain : Type 0 → Type 0
Chain A = List (chain.Item (Load A))

-- neither a shadow head nor a head
abbrev pub no_heads : Heads
no_heads = record { shadow = 0; seen = 0 }

-- nothing was missed
abbrev pub no_miss : Misses
no_miss = record { head_empty = 0; link_missing = 0 }

module _ {A : Type 0} where
  -- the rank that an entry is of
  abbrev pub rank_of : Entry A → ℕ
  rank_of e = e.rank

  -- what the rank has of the cell c
  abbrev pub hand : Entry A → ℕ → Hand A
  hand e c = slice_index_or e.hands c Away

  -- the rank is filling its next box for the rank j
  abbrev pub filling_of : Entry A → ℕ → Bool
  filling_of e j = slice_index_or e.filling j false

  -- what the rank is taking from its next box of the rank i
  abbrev pub emptying_of : Entry A → ℕ → Option (Load A)
  emptying_of e i = slice_index_or e.emptying i None

-- All that is true of the fabric at a moment, beside the words and slots.
-- It is where each cell is, the chain of each queue, what its consumer knows, what each rank put and got by cell and
-- by box, and for each ordered pair what waits in its boxes and who is at work on one
pub record World (A : Type 0) : Type 0 where
  pub place : ℕ → Place A
  pub chain : ℕ → Chain A
  pub heads : ℕ → Heads
  pub put : ℕ → List (ℕ × Load A)
  pub got : ℕ → List (Load A)
  pub put_box : ℕ → List (ℕ × Load A)
  pub got_box : ℕ → List (Load A)
  pub waits : ℕ → ℕ → List (Load A)
  pub filling : ℕ → ℕ → Bool
  pub emptying : ℕ → ℕ → Option (Load A)

module _ {A : Type 0} where
  -- the rank r has no part in it
  abbrev pub NotOf : ℕ → Place A → Type 0
  NotOf r (chain.loose s) = r ≢ s
  NotOf r (chain.held s) = r ≢ s
  NotOf r (chain.ready s y) = r ≢ s
  NotOf r (chain.entering s q t) = r ≢ s
  NotOf r (chain.queued q) = Unit {0}

  -- the rank r has this of a cell that is there
  abbrev pub Shows : ℕ → Place A → Hand A → Type 0
  Shows r p Away = NotOf r p
  Shows r p Loose = p ≡ chain.loose r
  Shows r p Held = p ≡ chain.held r
  Shows r p (Ready y) = p ≡ chain.ready r y
  Shows r p (Entering q t) = p ≡ chain.entering r q t

  -- a rank that has part in it is one of n
  abbrev pub Below : ℕ → Place A → Type 0
  Below n (chain.loose r) = r < n
  Below n (chain.held r) = r < n
  Below n (chain.ready r y) = r < n
  Below n (chain.entering r q t) = r < n
  Below n (chain.queued q) = Unit {0}

  -- the entry of the rank r has what is so of that rank
  pub record Agrees (n each : ℕ) (w : World A) (r : ℕ) (e : Entry A) : Type 0 where
    pub rank : e.rank ≡ r
    pub ranks : e.ranks ≡ n
    pub per : e.each ≡ each
    pub long : length e.hands ≡ n * each
    pub hands : (c : ℕ) → c < n * each → Shows r (w.place c) (hand e c)
    pub receive : e.receive ≡ w.heads r
    pub free : e.free ≡ w.heads (n + r)
    pub put : e.put ≡ w.put r
    pub got : e.got ≡ w.got r
    pub put_box : e.put_box ≡ w.put_box r
    pub got_box : e.got_box ≡ w.got_box r
    pub outs : length e.filling ≡ n
    pub ins : length e.emptying ≡ n
    pub filling : (j : ℕ) → j < n → filling_of e j ≡ w.filling r j
    pub emptying : (i : ℕ) → i < n → emptying_of e i ≡ w.emptying i r

  -- what was put for the rank j
  abbrev pub put_to : ℕ → List (ℕ × Load A) → List (Load A)
  put_to j [] = []
  put_to j (x ∷ xs) = pick (ℕ_discrete x.0 j) (x.1 ∷ put_to j xs) (put_to j xs)

  -- the rank that a parcel is from, plus 1; 0 where there is no parcel
  abbrev pub sender : Load A → ℕ
  sender (Some p) = suc p.from
  sender None = 0

  -- what is from the rank i
  abbrev pub from : ℕ → List (Load A) → List (Load A)
  from i [] = []
  from i (y ∷ ys) = pick (ℕ_discrete (sender y) (suc i)) (y ∷ from i ys) (from i ys)

  -- the number of a parcel
  abbrev pub number : Load A → ℕ
  number (Some p) = p.seq
  number None = 0

  -- what the flag of a box is that holds this parcel
  abbrev pub mark : Load A → ℕ
  mark y = suc (number y)

  -- the item of this load fits a box
  abbrev pub IsShort : (A → Bool) → Load A → Type 0
  IsShort boxable (Some p) = boxable p.item ≡ true
  IsShort boxable None = Unit {0}

  -- it is a parcel of the rank i whose item fits a box
  pub record GoesByBox (boxable : A → Bool) (i : ℕ) (y : Load A) : Type 0 where
    pub sent : sender y ≡ suc i
    pub short : IsShort boxable y

  -- how many parcels went to the rank j, of those put by box and by cell
  abbrev pub sent_to : ℕ → List (ℕ × Load A) → List (ℕ × Load A) → ℕ
  sent_to j by_box by_cell = length (put_to j by_box) + length (put_to j by_cell)

-- y where j is at most k, and else z
abbrev pub if_below : {A : Type 0} {j k : ℕ} → Dec (j ≤ k) → A → A → A
if_below (yes _) y z = y
if_below (no _) y z = z

module _ {A : Type 0} where
  -- what a rank puts by an enqueue of this load into the queue q
  abbrev pub posted : ℕ → ℕ → Load A → List (ℕ × Load A)
  posted n q y = if_below (dec_le (suc q) n) ((q, y) ∷ []) []

  -- what a rank gets by a dequeue of this load from the queue q
  abbrev pub fetched : ℕ → ℕ → Load A → List (Load A)
  fetched n q y = if_below (dec_le (suc q) n) (y ∷ []) []

  -- what the cells of a chain hold, in order
  abbrev pub loads : Chain A → List (Load A)
  loads [] = []
  loads (x ∷ xs) = x.load ∷ loads xs

-- the word of the head of the queue q
abbrev pub head_word : ℕ → ℕ
head_word q = q

-- of n ranks, the word of the tail of the queue q
abbrev pub tail_word : ℕ → ℕ → ℕ
tail_word n q = 2 * n + q

-- of n ranks, the word of the link of the cell c
abbrev pub link_word : ℕ → ℕ → ℕ
link_word n c = 4 * n + c

-- of n ranks, the word of the flag of the box whose slot is c
abbrev pub flag_word : ℕ → ℕ → ℕ
flag_word n c = 4 * n + c

module _ (n : ℕ) (words : List ℕ) where
  -- the head of the queue q
  abbrev pub head : ℕ → ℕ
  head q = slice_index words (head_word q)

  -- the tail of the queue q
  abbrev pub tail : ℕ → ℕ
  tail q = slice_index words (tail_word n q)

  -- the link of the cell c
  abbrev pub link : ℕ → ℕ
  link c = slice_index words (link_word n c)

module _ {A : Type 0} where
  -- the slot c is at home, with y
  abbrev pub HasHome : List (maybe.Option (Load A)) → ℕ → Load A → Type 0
  HasHome homes c y = get_elem? homes c ≡ maybe.some (maybe.some y)

  -- the slot c is out with a seat
  abbrev pub IsOut : List (maybe.Option (Load A)) → ℕ → Type 0
  IsOut homes c = get_elem? homes c ≡ maybe.some maybe.none

  -- The cells of a receive queue hold a parcel of their owner. Those of a free queue are its rank's own, and hold none
  abbrev pub Suits : ℕ → ℕ → ℕ → chain.Item (Load A) → Type 0
  Suits n each q x = (q < n → sender x.load ≡ suc (x.cell / each))
      × (n ≤ q → (x.load ≡ None) × (n + x.cell / each ≡ q))

  -- an item of the queue q is a cell of the fabric, its slot is at home with what it holds, and it suits the queue
  abbrev pub Fits : ℕ → ℕ → List (maybe.Option (Load A)) → ℕ → chain.Item (Load A) → Type 0
  Fits n each homes q x = (x.cell < n * each) × HasHome homes x.cell x.load × Suits n each q x

  -- a loose cell's slot is at home and empty; that of a cell in a hand is out, and if it is ready its link is 0
  abbrev pub Handed : ℕ → List ℕ → List (maybe.Option (Load A)) → ℕ → Place A → Type 0
  Handed n words homes c (chain.loose r) = HasHome homes c None
  Handed n words homes c (chain.held r) = IsOut homes c
  Handed n words homes c (chain.ready r y) = IsOut homes c × (link n words c ≡ 0)
  Handed n words homes c (chain.entering r q t) = q < 2 * n
  Handed n words homes c (chain.queued q) = q < 2 * n

  -- the queue q is this chain
  abbrev pub QueueHolds : ℕ → ℕ → World A → List ℕ → List (maybe.Option (Load A)) → ℕ → Type 0
  QueueHolds n each w words homes q = chain.IsChain (Fits n each homes q) w.place (link n words) q
      (head n words q) (tail n words q) (w.heads q).shadow (w.chain q)

  -- What holds of the cells and queues: so many words and slots, each queue a chain, each cell in one place
  pub record QueuesHold (n each : ℕ) (w : World A) (words : List ℕ)
      (homes : List (maybe.Option (Load A))) : Type 0 where
    pub long : length words ≡ 4 * n + n * each + 4 * (n * n)
    pub slots : length homes ≡ n * each + 4 * (n * n)
    pub queues : (q : ℕ) → q < 2 * n → QueueHolds n each w words homes q
    -- the head stays what its consumer loaded, until the consumer clears it
    pub seen : (q : ℕ) → q < 2 * n → 0 < (w.heads q).seen → head n words q ≡ (w.heads q).seen
    pub cells : (c : ℕ) → c < n * each → Handed n words homes c (w.place c)
    -- what the rank i put into the queue of j is what j got, and then what is in the chain
    pub paths : (i j : ℕ) → i < n → j < n → put_to j (w.put i) ≡ from i (w.got j) ++ from i
        (loads (w.chain j))

-- the slot of the box k, of the four from the rank i to the rank j
abbrev pub box_slot : ℕ → ℕ → ℕ → ℕ → ℕ → ℕ
box_slot n each i j k = n * each + (4 * (i * n + j) + k)

module _ {A : Type 0} where
  -- the boxes of the fabric, each of which holds what fits
  abbrev pub BoxesHold : (A → Bool) → ℕ → ℕ → World A → List ℕ → List (maybe.Option (Load A)) → Type 0
  BoxesHold boxable n each w words homes = (i j : ℕ) → i < n → j < n
      → Window 4 None mark (GoesByBox boxable i)
      (λ k. slice_index words (flag_word n (box_slot n each i j k)))
      (λ k. get_elem? homes (box_slot n each i j k))
      (w.filling i j) (w.emptying i j) (put_to j (w.put_box i)) (from i (w.got_box j)) (w.waits i j)

  -- the numbers of each ordered pair's parcels, on both paths
  abbrev pub AllInSequence : ℕ → World A → Type 0
  AllInSequence n w = (i j : ℕ) → i < n → j < n → InSequence (sent_to j (w.put_box i) (w.put i))
      (map number (from i (w.got_box j))) (map number (w.waits i j))
      (map number (from i (w.got j))) (map number (from i (loads (w.chain j))))

  -- what the last steps of the rank r on its queues told of the tails is still so
  abbrev pub LooksHold : ℕ → List ℕ → ℕ → Entry A → Type 0
  LooksHold n words r e = StillTold e.looks.receive e.receive.shadow (tail n words r)
      × StillTold e.looks.free e.free.shadow (tail n words (n + r))

  -- What holds between any two steps of any ranks: each entry agrees with one world, and the words and
  -- slots are as this world has them
  pub record Rule (boxable : A → Bool) (key : Sizes) (s : State (Load A) (View (Entry A))) : Type 0 where
    pub ledger : ℕ → Entry A
    pub world : World A
    pub spoken : Spoken rank_of ledger s.views
    pub knows : (r : ℕ) → r < key.ranks → Agrees key.ranks key.cells world r (ledger r)
    pub ranked : (c : ℕ) → Below key.ranks (world.place c)
    pub laid : QueuesHold key.ranks key.cells world s.words s.homes
    pub boxes : BoxesHold boxable key.ranks key.cells world s.words s.homes
    pub turns : AllInSequence key.ranks world
    pub told : (r : ℕ) → r < key.ranks → LooksHold key.ranks s.words r (ledger r)

  -- a rank of n that has no part in any cell, and of which nothing came and to which nothing went
  abbrev pub newcomer : ℕ → ℕ → ℕ → Entry A
  newcomer n each r = record {
    rank = r;
    ranks = n;
    each = each;
    hands = replicate (n * each) Away;
    receive = no_heads;
    free = no_heads;
    put = [];
    got = [];
    put_box = [];
    got_box = [];
    filling = replicate n false;
    emptying = replicate n None;
    looks = no_looks;
    receive_missed = no_miss;
    free_missed = no_miss;
    box_full = replicate n 0;
    box_miss = replicate n 0;
  }

  -- what the rank r has of the k cells from c on at the start: its own cells are loose
  abbrev pub first_hands : ℕ → ℕ → ℕ → ℕ → List (Hand A)
  first_hands each r c zero = []
  first_hands each r c (suc k) = pick (ℕ_discrete (c / each) r) Loose Away ∷ first_hands each r (suc c) k

  -- a rank of n at the start
  abbrev pub beginner : ℕ → ℕ → ℕ → Entry A
  beginner n each r = record (newcomer n each r) { hands = first_hands each r 0 (n * each) }

  -- the k ranks from r on
  abbrev pub beginners : ℕ → ℕ → ℕ → ℕ → List (Entry A)
  beginners n each r zero = []
  beginners n each r (suc k) = beginner n each r ∷ beginners n each (suc r) k

  -- the view of the first seat, which speaks for all ranks
  abbrev pub first_view : Sizes → View (Entry A)
  first_view key = view (beginners key.ranks key.cells 0 key.ranks)

-- the words at the start: no queue has a cell, and no box is full
abbrev pub Opens : ℕ → ℕ → List ℕ → Type 0
Opens n each words = (length words ≡ 4 * n + n * each + 4 * (n * n))
    × ((i : ℕ) → i < length words → slice_index words i ≡ 0)
