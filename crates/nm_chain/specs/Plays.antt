-- What each kind of step tells the seat that makes it. Each names its word first.
use Rattle.std.specs.Prelude.{map, Option, Some, slice_index, zero, suc, ◌≡◌, ◌≢◌, ℕ, ◌+◌, ◌-◌, ◌*◌, ◌/◌}
use Rattle.std.specs.Prelude.{Bool, true, false, ◌<◌, ◌≤◌, List, [], ◌∷◌, ◌++◌, length, slice_set}
use Rattle.std.specs.Prelude.{None, min}
use native.Mathlib.Decide.{ℕ_discrete, dec_le}
use Rattle.atomic_table.specs.Table.{Me, Step, rest}
use Rattle.nm_chain.specs.declared.seats.views.View.{View}
use Rattle.nm_chain.specs.Spoken.{view}
use Rattle.nm_chain.specs.declared.table.table.Hand.{Hand}
use Rattle.nm_chain.specs.declared.table.table.Hand.TheVariants.{Away, Loose, Held, Ready, Entering}
use Rattle.nm_chain.specs.declared.table.table.Heads.{Heads}
use Rattle.nm_chain.specs.declared.table.table.Misses.{Misses}
use Rattle.nm_chain.specs.declared.table.table.Entry.{Entry}
use Rattle.nm_chain.specs.Chain.{item}
use Rattle.nm_chain.specs.Sequence.{Each, Got}
use Rattle.nm_chain.specs.Rule.{Load, Suits, no_heads, no_miss, posted, fetched, hand, filling_of}
use Rattle.nm_chain.specs.Rule.{emptying_of, from, number, sender, if_below}
use Rattle.nm_chain.specs.Rule.{head_word, tail_word, link_word, flag_word}
use Rattle.nm_chain.specs.NextBox.{BoxesApart, next_box}
use Rattle.nm_chain.specs.declared.table.table.Look.{Look}
use Rattle.nm_chain.specs.declared.table.table.Look.TheVariants.{Fresh, LinkEmpty, TailElsewhere}
use Rattle.nm_chain.specs.Looks.{no_looks, set_look, look_in, link_empty}
use Rattle.nm_chain.specs.OwnQueues.{OwnQueue, receive_queue, free_queue, other}
use Rattle.nm_chain.specs.Update.{pick}

-- what a seat knows: its view, and the slots that it has taken with what they hold
abbrev pub Knowing : Type 0 → Type 0
Knowing A = Me (Load A) (View (Entry A))

module _ {A : Type 0} where
  -- what stands for an entry where there is none
  abbrev pub no_entry : Entry A
  no_entry = record {
    rank = 0;
    ranks = 0;
    each = 0;
    hands = [];
    receive = no_heads;
    free = no_heads;
    put = [];
    got = [];
    put_box = [];
    got_box = [];
    filling = [];
    emptying = [];
    looks = no_looks;
    receive_missed = no_miss;
    free_missed = no_miss;
    box_full = [];
    box_miss = [];
  }

  -- the entry of a view that has one
  abbrev pub sole : List (Entry A) → Entry A
  sole [] = no_entry
  sole (e ∷ es) = e

  -- the entry of a seat that speaks for one rank
  abbrev pub mine : Knowing A → Entry A
  mine me = sole me.0.entries

  -- the seat speaks for one rank
  abbrev pub Alone : Knowing A → Type 0
  Alone me = me.0 ≡ view (mine me ∷ [])

  -- what is in the slot that was taken last
  abbrev pub first_load : List (ℕ × Load A) → Load A
  first_load [] = None
  first_load (x ∷ xs) = x.1

  -- what is in the slot c, of those taken
  abbrev pub load_in : ℕ → List (ℕ × Load A) → Load A
  load_in c [] = None
  load_in c (x ∷ xs) = pick (ℕ_discrete x.0 c) x.1 (load_in c xs)

  -- the rank has this of the cell c
  abbrev pub with_hand : ℕ → Hand A → Entry A → Entry A
  with_hand c h e = record e { hands = slice_set e.hands c h }

  -- these were put by cell
  abbrev pub with_put : List (ℕ × Load A) → Entry A → Entry A
  with_put xs e = record e { put = e.put ++ xs }

  -- a cell that was loose is in hand, and empty
  abbrev pub picked : Step (Load A) → Knowing A → ℕ → Knowing A → Type 0
  picked s me found after = let n = (mine me).ranks in let c = s.word - 4 * n in
      (s.word ≡ link_word n c)
      × (after ≡ (view (with_hand c Held (mine me) ∷ []), (c, None) ∷ me.1))

  -- the link of a cell in hand is 0, and the rank knows what the cell holds
  abbrev pub cleared : Step (Load A) → Knowing A → ℕ → Knowing A → Type 0
  cleared s me found after = let n = (mine me).ranks in let c = s.word - 4 * n in
      (s.word ≡ link_word n c)
      × (after ≡ (view (with_hand c (Ready (load_in c me.1)) (mine me) ∷ []), me.1))

  -- the cell is at the tail of a queue, where this was found
  abbrev pub swapped : Step (Load A) → Knowing A → ℕ → Knowing A → Type 0
  swapped s me found after = let n = (mine me).ranks in let q = s.word - 2 * n in
      (s.word ≡ tail_word n q) × (q < 2 * n) × (found ≤ length (mine me).hands)
      × (after ≡ (
        view (with_put (posted n q (first_load me.1))
            (with_hand (s.first - 1) (Entering q found) (mine me)) ∷ []),
        rest me.1,
      ))

  -- the word that ends an enqueue: the head where there was no tail, and else the link of the cell at the tail
  abbrev pub end_word : ℕ → Hand A → ℕ
  end_word n Away = 0
  end_word n Loose = 0
  end_word n Held = 0
  end_word n (Ready y) = 0
  end_word n (Entering q zero) = head_word q
  end_word n (Entering q (suc c)) = link_word n c

  -- the enqueue is finished
  abbrev pub finished : Step (Load A) → Knowing A → ℕ → Knowing A → Type 0
  finished s me found after =
      (s.word ≡ end_word (mine me).ranks (hand (mine me) (s.first - 1)))
      × (after ≡ (view (with_hand (s.first - 1) Away (mine me) ∷ []), me.1))

  -- the cell is in the rank's hand, with its slot
  abbrev pub InHand : Hand A → Type 0
  InHand Away = ⊥
  InHand Loose = ⊥
  InHand Held = Unit {0}
  InHand (Ready y) = Unit {0}
  InHand (Entering q t) = ⊥

-- a rank's own queues: the receive queue, or the free queue
abbrev pub queue : ℕ → ℕ → OwnQueue → ℕ
queue n r receive_queue = r
queue n r free_queue = n + r

module _ {A : Type 0} where
  -- the shadow head and the head of the receive queue, or else of the free queue
  abbrev pub heads_of : OwnQueue → Entry A → Heads
  heads_of receive_queue e = e.receive
  heads_of free_queue e = e.free

  -- those of a queue change
  abbrev pub with_heads : OwnQueue → Heads → Entry A → Entry A
  with_heads receive_queue x e = record e { receive = x }
  with_heads free_queue x e = record e { free = x }

  -- the last step on the queue told this
  abbrev pub with_look : OwnQueue → Look → Entry A → Entry A
  with_look b l e = record e { looks = set_look b l e.looks }

  -- the link of the queue's first cell was loaded as 0
  abbrev pub with_link_empty : OwnQueue → Entry A → Entry A
  with_link_empty b e = with_look b (link_empty (look_in b e.looks)) e

-- this shadow head, and this head as it was last loaded
abbrev pub heads_at : ℕ → ℕ → Heads
heads_at shadow seen = record { shadow = shadow; seen = seen }

module _ {A : Type 0} where
  -- these were got by cell
  abbrev pub with_got : List (Load A) → Entry A → Entry A
  with_got ys e = record e { got = e.got ++ ys }

  -- the cell c, which holds y, is in hand, and the queue's shadow head is this, of which nothing was told
  abbrev pub taken : OwnQueue → ℕ → Load A → ℕ → Entry A → Entry A
  taken b c y shadow e = with_got (fetched e.ranks (queue e.ranks e.rank b) y)
      (with_hand c Held (with_look b Fresh (with_heads b (heads_at shadow 0) e)))

-- a count goes up by one, and stands still at the last value of its 64 bits
abbrev pub raised : ℕ → ℕ
raised k = if_below (dec_le (suc k) 18446744073709551615) (suc k) k

-- the lesser of a number and the last value of 64 bits
abbrev pub capped : ℕ → ℕ
capped k = min k 18446744073709551615

-- changed where it is so, and else the same
abbrev pub on : OwnQueue → (Misses → Misses) → Misses → Misses
on receive_queue f x = f x
on free_queue f x = x

module _ {A : Type 0} where
  -- the misses of a queue change
  abbrev pub with_missed : OwnQueue → (Misses → Misses) → Entry A → Entry A
  with_missed b f e = record e {
    receive_missed = on b f e.receive_missed;
    free_missed =
        on (other b) f e.free_missed;
  }

  -- the misses of the receive queue, or else of the free queue
  abbrev pub missed_of : OwnQueue → Entry A → Misses
  missed_of receive_queue e = e.receive_missed
  missed_of free_queue e = e.free_missed

-- the head was loaded as 0 once more
abbrev pub head_miss : Misses → Misses
head_miss x = record x { head_empty = raised x.head_empty }

-- the link was once more loaded as 0 although the tail was another cell
abbrev pub link_miss : Misses → Misses
link_miss x = record x { link_missing = raised x.link_missing }

module _ {A : Type 0} where
  -- the word is the head of an own queue
  abbrev pub IsHead : OwnQueue → Entry A → ℕ → Type 0
  IsHead b e word = word ≡ head_word (queue e.ranks e.rank b)

  -- the word is the tail of an own queue
  abbrev pub IsTail : OwnQueue → Entry A → ℕ → Type 0
  IsTail b e word = word ≡ tail_word e.ranks (queue e.ranks e.rank b)

  -- the word is the link of the first cell of an own queue
  abbrev pub IsFirstLink : OwnQueue → Entry A → ℕ → Type 0
  IsFirstLink b e word = word ≡ link_word e.ranks ((heads_of b e).shadow - 1)

  -- the word is the flag of the next box for the rank j, or else of the next box of the rank j
  abbrev pub IsFlag : Bool → ℕ → Entry A → ℕ → Type 0
  IsFlag b j e word = word ≡ flag_word e.ranks (next_box e b j)

  -- the head was loaded, and 0 is a miss
  abbrev pub loaded_head : OwnQueue → Step (Load A) → Knowing A → ℕ → Knowing A → Type 0
  loaded_head b s me found after = IsHead b (mine me) s.word × (found ≤ length (mine me).hands)
      × (found ≡ 0 → after ≡ (
        view
            (with_missed b head_miss (with_heads b (heads_at (heads_of b (mine me)).shadow 0) (mine me)) ∷
            []),
        me.1,
      ))
      × (0 < found → after ≡ (
        view (with_heads b (heads_at (heads_of b (mine me)).shadow found)
            (mine me) ∷ []),
        me.1,
      ))

  -- the head is 0, and what was loaded from it is the shadow head
  abbrev pub cleared_head : OwnQueue → Step (Load A) → Knowing A → ℕ → Knowing A → Type 0
  cleared_head b s me found after = IsHead b (mine me) s.word
      × (after ≡ (view (with_heads b (heads_at (heads_of b (mine me)).seen 0) (mine me) ∷ []), me.1))

  -- the parcel with the number k came from the rank i
  abbrev pub Came : Entry A → ℕ → ℕ → Type 0
  Came e i k = Got (map number (from i e.got_box)) (map number (from i e.got)) k

  -- the parcel with the number k of the rank i is new: it did not come, and those that came by cell have smaller numbers
  abbrev pub IsNews : Entry A → ℕ → ℕ → Type 0
  IsNews e i k = (¬ Came e i k) × Each (λ j. j < k) (map number (from i e.got))

  -- a cell of the receive queue holds a new parcel of its owner
  abbrev pub HoldsNews : OwnQueue → ℕ → Entry A → Load A → Type 0
  HoldsNews receive_queue c e y = IsNews e (c / e.each) (number y)
  HoldsNews free_queue c e y = Unit {0}

  -- the cell c was in nobody's hand, and is in this one's, with what it holds in its slot
  pub record Took (b : OwnQueue) (c shadow : ℕ) (me after : Knowing A) : Type 0 where
    pub low : c < length (mine me).hands
    pub fits : shadow ≤ length (mine me).hands
    pub away : hand (mine me) c ≡ Away
    pub load : Load A
    pub suits : Suits (mine me).ranks (mine me).each (queue (mine me).ranks (mine me).rank b)
        (item c load)
    pub news : HoldsNews b c (mine me) load
    pub after_is : after ≡ (view (taken b c load shadow (mine me) ∷ []), (c, load) ∷ me.1)

  -- the link of the shadow head was loaded: where it leads on, its cell is in hand, and else the entry becomes this
  abbrev pub passed_or : ((Entry A) → Entry A) → OwnQueue → Step (Load A) → Knowing A → ℕ → Knowing A → Type 0
  passed_or f b s me found after = IsFirstLink b (mine me) s.word
      × (found ≡ 0 → after ≡ (view (f (mine me) ∷ []), me.1))
      × (0 < found → Took b (s.word - 4 * (mine me).ranks) found me after)

  -- a link that was loaded as 0 is what the step told
  abbrev pub passed : OwnQueue → Step (Load A) → Knowing A → ℕ → Knowing A → Type 0
  passed b s me found after = passed_or (with_link_empty b) b s me found after

  -- the same after the tail was found not to be this cell: 0 is a miss
  abbrev pub reloaded : OwnQueue → Step (Load A) → Knowing A → ℕ → Knowing A → Type 0
  reloaded b s me found after =
      passed_or (λ e. with_look b (LinkEmpty 0) (with_missed b link_miss e)) b s me found after

  -- the tail was exchanged for 0 where it was the shadow head, whose cell is then in hand. Else the step told that it
  -- is elsewhere
  abbrev pub drained : OwnQueue → Step (Load A) → Knowing A → ℕ → Knowing A → Type 0
  drained b s me found after = IsTail b (mine me) s.word × (s.first ≡ (heads_of b (mine me)).shadow)
      × (found ≢ s.first
      → after ≡ (view (with_look b TailElsewhere (mine me) ∷ []), me.1))
      × (found ≡ s.first → Took b (s.first - 1) 0 me after)

  -- whether the next box for the rank j is being filled
  abbrev pub with_filling : ℕ → Bool → Entry A → Entry A
  with_filling j x e = record e { filling = slice_set e.filling j x }

  -- what is being taken from the next box of the rank i
  abbrev pub with_emptying : ℕ → Option (Load A) → Entry A → Entry A
  with_emptying i x e = record e { emptying = slice_set e.emptying i x }

  -- these were put by box
  abbrev pub with_put_box : List (ℕ × Load A) → Entry A → Entry A
  with_put_box xs e = record e { put_box = e.put_box ++ xs }

  -- these were got by box
  abbrev pub with_got_box : List (Load A) → Entry A → Entry A
  with_got_box ys e = record e { got_box = e.got_box ++ ys }

  -- the next box for the rank j was once more found full
  abbrev pub with_box_full : ℕ → Entry A → Entry A
  with_box_full j e = record e {
    box_full =
        slice_set e.box_full j (raised (slice_index e.box_full j));
  }

  -- the next box of the rank i was once more found without the awaited number
  abbrev pub with_box_miss : ℕ → Entry A → Entry A
  with_box_miss i e = record e {
    box_miss =
        slice_set e.box_miss i (raised (slice_index e.box_miss i));
  }

  -- all parcels of the rank i with smaller numbers came
  abbrev pub AllBelow : Entry A → ℕ → ℕ → Type 0
  AllBelow e i a = (k : ℕ) → k < a → Came e i k

  -- a parcel of the rank i came before the one with the number a, which has a smaller number
  abbrev pub Overtaken : Entry A → ℕ → ℕ → Type 0
  Overtaken e i a = ((k : ℕ) × (a < k) × Came e i k) × ¬ Came e i a

  -- and all with smaller numbers than a came
  abbrev pub Overdue : Entry A → ℕ → ℕ → Type 0
  Overdue e i a = AllBelow e i a × Overtaken e i a

  -- the slots in hand once the free box, whose slot is c, is the sender's to fill
  abbrev pub slots_to_fill : Bool → ℕ → List (ℕ × Load A) → List (ℕ × Load A)
  slots_to_fill true c hs = hs
  slots_to_fill false c hs = (c, None) ∷ hs

  -- the box is the rank's to fill where 0 was found in the flag of the next box for the rank j, and else is full
  abbrev pub told_out : ℕ → Step (Load A) → Knowing A → ℕ → Knowing A → Type 0
  told_out j s me found after =
      (found ≡ 0 → (filling_of (mine after) j ≡ true)
      × (after ≡ (
        view (with_filling j true (mine me) ∷ []),
        slots_to_fill (filling_of (mine me) j) (s.word - 4 * (mine me).ranks) me.1,
      )) × BoxesApart (mine after))
      × (0 < found → after ≡ (view (with_box_full j (mine me) ∷ []), me.1))

  -- the flag of the next box for the rank j was loaded
  abbrev pub looked_out : ℕ → Step (Load A) → Knowing A → ℕ → Knowing A → Type 0
  looked_out j s me found after = IsFlag true j (mine me) s.word × told_out j s me found after

  -- what the rank is taking
  abbrev pub taking : Option (Load A) → Load A
  taking None = None
  taking (Some y) = y

  -- the load of the rank i that is being taken
  abbrev pub box_load : ℕ → Entry A → Load A
  box_load i e = taking (emptying_of e i)

  -- the slots in hand once the full box, whose slot is c, is the receiver's to empty
  abbrev pub slots_to_empty : Option (Load A) → ℕ → Load A → List (ℕ × Load A) → List (ℕ × Load A)
  slots_to_empty None c y hs = (c, y) ∷ hs
  slots_to_empty (Some z) c y hs = hs

  -- the box of the rank i, whose slot is c, is the receiver's to empty, and has the number a
  abbrev pub IsToEmpty : ℕ → ℕ → ℕ → Knowing A → Knowing A → Type 0
  IsToEmpty i a c me after = let y = box_load i (mine after) in (emptying_of (mine after) i ≡ Some y)
      × (number y ≡ a) × (sender y ≡ suc i)
      × (after ≡ (
        view (with_emptying i (Some y) (mine me) ∷ []),
        slots_to_empty (emptying_of (mine me) i) c y me.1,
      )) × BoxesApart (mine after) × ((z : Load A) → emptying_of (mine me) i ≡ Some z → z ≡ y)

  -- the box is the rank's to empty where the flag of the next box of the rank i had the awaited number a. Where that
  -- is overdue it is there
  abbrev pub told_in : ℕ → ℕ → Step (Load A) → Knowing A → ℕ → Knowing A → Type 0
  told_in i a s me found after = (found ≡ suc a → IsToEmpty i a (s.word - 4 * (mine me).ranks) me after)
      × (found ≢ suc a → after ≡ (view (with_box_miss i (mine me) ∷ []), me.1))
      × (Overdue (mine me) i a → found ≡ suc a)

  -- the flag of the next box of the rank i was loaded, from which the number a is awaited
  abbrev pub looked_in : ℕ → ℕ → Step (Load A) → Knowing A → ℕ → Knowing A → Type 0
  looked_in i a s me found after = IsFlag false i (mine me) s.word × told_in i a s me found after

  -- the parcel in hand is put for the rank j
  abbrev pub put_boxed : ℕ → Knowing A → Knowing A → Type 0
  put_boxed j me after =
      after ≡ (
        view (with_put_box ((j, first_load me.1) ∷ []) (with_filling j false (mine me)) ∷ []),
        rest me.1,
      )

  -- the box for the rank j is full
  abbrev pub boxed : ℕ → Step (Load A) → Knowing A → ℕ → Knowing A → Type 0
  boxed j s me found after = IsFlag true j (mine me) s.word × put_boxed j me after

  -- the parcel of the rank i is got, and is new
  abbrev pub got_boxed : ℕ → Knowing A → Knowing A → Type 0
  got_boxed i me after =
      (after ≡ (
        view (with_got_box (box_load i (mine me) ∷ []) (with_emptying i None (mine me)) ∷ []),
        rest me.1,
      ))
      × ¬ Came (mine me) i (number (box_load i (mine me)))

  -- the box of the rank i is empty
  abbrev pub unboxed : ℕ → Step (Load A) → Knowing A → ℕ → Knowing A → Type 0
  unboxed i s me found after = IsFlag false i (mine me) s.word × got_boxed i me after
