-- What each kind of step tells the seat that makes it.
use Rattle.std.specs.Prelude.{◌≡◌, ℕ, suc, ◌%◌, ◌<◌, List, [], ◌∷◌, ◌++◌, length, slice_set, Some, None}
use Rattle.atomic_table.specs.Table.{Me, Step}
use Rattle.nm_chain.specs.declared.seats.views.View.{View}
use Rattle.nm_chain.specs.Spoken.{view}
use Rattle.nm_types.specs.declared.packets.Piece.{Piece}
use Rattle.nm_copyring.specs.declared.table.Work.{Work}
use Rattle.nm_copyring.specs.declared.table.Work.TheVariants.{Idle, Filling, Emptying}
use Rattle.nm_copyring.specs.declared.table.Look.{Look}
use Rattle.nm_copyring.specs.declared.table.Look.TheVariants.{Fresh, Free, Full}
use Rattle.nm_copyring.specs.declared.table.Lane.{Lane}
use Rattle.nm_copyring.specs.declared.table.Entry.{Entry}
use Rattle.nm_copyring.specs.Rule.{Load, lane, newcomer, place}

-- what a seat knows: its view, and the slots that it has taken with what they hold
abbrev pub Knowing : Type 0
Knowing = Me Load (View Entry)

-- the entry of a view that has one
abbrev pub sole : List Entry → Entry
sole [] = newcomer 0 0
sole (e ∷ es) = e

-- the entry of a seat that speaks for one rank
abbrev pub mine : Knowing → Entry
mine me = sole me.0.entries

-- the seat of a rank that knows e, with no slot in hand
abbrev pub knowing : Entry → Knowing
knowing e = (view (e ∷ []), [])

-- the seat is between two calls
abbrev pub Rests : Knowing → Type 0
Rests me = (me ≡ knowing (mine me)) × ((mine me).work ≡ Idle)

-- the entry is of one of n ranks
abbrev pub IsOne : ℕ → Entry → Type 0
IsOne n e = (e.rank < n) × (e.ranks ≡ n) × (length e.lanes ≡ n)

-- the rank is at work on this, and what it found before counts no more
abbrev pub with_work : Work → Entry → Entry
with_work w e = record e { work = w; look = Fresh }

-- the rank found this where it looked last
abbrev pub with_look : Look → Entry → Entry
with_look l e = record e { look = l }

-- what the rank knows without what it found where it looked last
abbrev pub unlooked : Entry → Entry
unlooked e = with_look Fresh e

-- what the rank has of the rank j changes
abbrev pub with_lane : (Lane → Lane) → ℕ → Entry → Entry
with_lane f j e = record e { lanes = slice_set e.lanes j (f (lane e j)) }

-- one more piece was pushed
abbrev pub one_pushed : Piece → Lane → Lane
one_pushed p l = record l { pushed = l.pushed ++ p ∷ [] }

-- one more piece was pulled
abbrev pub one_pulled : Piece → Lane → Lane
one_pulled p l = record l { pulled = l.pulled ++ p ∷ [] }

-- the next place was once more found full
abbrev pub one_full : Lane → Lane
one_full l = record l { full = suc l.full }

-- the next place was once more found empty
abbrev pub one_empty : Lane → Lane
one_empty l = record l { empty = suc l.empty }

-- the next place of the rank for the rank j
abbrev pub next_out : Entry → ℕ → ℕ
next_out e j = place e.ranks e.rank j (length (lane e j).pushed % 4)

-- the next place of the rank i for the rank
abbrev pub next_in : Entry → ℕ → ℕ
next_in e i = place e.ranks i e.rank (length (lane e i).pulled % 4)

-- the flag of the next place for the rank j was loaded: where it is 0 the place is the rank's to fill, and
-- 0 it is where the rank found it so
abbrev pub looked_out : Step Load → Knowing → ℕ → Knowing → Type 0
looked_out s me found after = (j : ℕ) → j < (mine me).ranks → s.word ≡ next_out (mine me) j
    → (found ≡ 0 → after ≡ (view (with_work (Filling j) (mine me) ∷ []), (s.word, None) ∷ me.1))
    × (0 < found → after ≡ (view (with_lane one_full j (mine me) ∷ []), me.1))
    × ((mine me).look ≡ Free j → found ≡ 0)

-- the place is full, with this piece
abbrev pub filled : Step Load → Knowing → ℕ → Knowing → Type 0
filled s me found after = (j : ℕ) (p : Piece) (hs : List (ℕ × Load)) → (mine me).work ≡ Filling j
    → me.1 ≡ (s.word, Some p) ∷ hs
    → after ≡ (view (with_lane (one_pushed p) j (with_work Idle (mine me)) ∷ []), hs)

-- the place of the rank i, which was looked at, has the next piece by number
abbrev pub Found : ℕ → ℕ → Knowing → Knowing → Type 0
Found i word me after = (p : Piece) × (p.from ≡ i) × (p.number ≡ length (lane (mine me) i).pulled)
    × (after ≡ (view (with_work (Emptying i p) (mine me) ∷ []), (word, Some p) ∷ me.1))

-- the flag of the next place of the rank i was loaded: where it isn't 0 the place is the rank's to empty,
-- and it isn't 0 where the rank found it so
abbrev pub looked_in : Step Load → Knowing → ℕ → Knowing → Type 0
looked_in s me found after = (i : ℕ) → i < (mine me).ranks → s.word ≡ next_in (mine me) i
    → (found ≡ 0 → after ≡ (view (with_lane one_empty i (mine me) ∷ []), me.1))
    × (0 < found → Found i s.word me after)
    × ((mine me).look ≡ Full i → 0 < found)

-- the place is empty, and its piece was pulled
abbrev pub emptied : Step Load → Knowing → ℕ → Knowing → Type 0
emptied s me found after = (i : ℕ) (p : Piece) (hs : List (ℕ × Load))
    → (mine me).work ≡ Emptying i p → me.1 ≡ (s.word, None) ∷ hs
    → after ≡ (view (with_lane (one_pulled p) i (with_work Idle (mine me)) ∷ []), hs)

-- the flag of the next place for the rank j was loaded and no more: a free place is noted, and a full one
-- counted
abbrev pub peeked_out : Step Load → Knowing → ℕ → Knowing → Type 0
peeked_out s me found after = (j : ℕ) → j < (mine me).ranks → s.word ≡ next_out (mine me) j
    → (found ≡ 0 → after ≡ (view (with_look (Free j) (mine me) ∷ []), me.1))
    × (0 < found → after ≡ (view (with_lane one_full j (mine me) ∷ []), me.1))

-- the flag of the next place of the rank i was loaded and no more: a full place is noted, and an empty one
-- counted
abbrev pub peeked_in : Step Load → Knowing → ℕ → Knowing → Type 0
peeked_in s me found after = (i : ℕ) → i < (mine me).ranks → s.word ≡ next_in (mine me) i
    → (found ≡ 0 → after ≡ (view (with_lane one_empty i (mine me) ∷ []), me.1))
    × (0 < found → after ≡ (view (with_look (Full i) (mine me) ∷ []), me.1))
