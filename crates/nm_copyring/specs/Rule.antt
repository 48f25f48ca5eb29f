-- The rule of the rings.
-- Of n ranks, the k-th of the four places from the rank i to the rank j has the number place n i j k. That is
-- the number of the word that is its flag, and of the slot that holds its piece.
use Rattle.std.specs.Prelude.{◌≡◌, ℕ, zero, suc, ◌+◌, ◌*◌, ◌%◌, ◌<◌, Bool, true, false, Option, Some, None}
use Rattle.std.specs.Prelude.{List, [], ◌∷◌, length, map, replicate, slice_index, slice_index_or}
use mathlib.Core.Option as maybe
use native.Mathlib.Decide.{ℕ_discrete}
use lib.ListN.{get_elem?}
use Rattle.atomic_table.specs.Table.{State}
use Rattle.nm_chain.specs.declared.seats.views.View.{View}
use Rattle.nm_chain.specs.Spoken.{view, Spoken}
use Rattle.nm_chain.specs.Update.{pick}
use Rattle.nm_chain.specs.Window.{Any, Window}
use Rattle.nm_types.specs.declared.packets.Piece.{Piece}
use Rattle.nm_copyring.specs.declared.table.Work.{Work}
use Rattle.nm_copyring.specs.declared.table.Work.TheVariants.{Idle, Filling, Emptying}
use Rattle.nm_copyring.specs.declared.table.Look.TheVariants.{Fresh, Free, Full}
use Rattle.nm_copyring.specs.declared.table.Lane.{Lane}
use Rattle.nm_copyring.specs.declared.table.Entry.{Entry}

-- what a slot holds: a piece, or nothing
abbrev pub Load : Type 0
Load = Option Piece

-- the rank that an entry is of
abbrev pub rank_of : Entry → ℕ
rank_of e = e.rank

-- nothing was pushed or pulled
abbrev pub new_lane : Lane
new_lane = record { pushed = []; pulled = []; full = 0; empty = 0 }

-- what the rank pushed to the rank j, and pulled from it
abbrev pub lane : Entry → ℕ → Lane
lane e j = slice_index_or e.lanes j new_lane

-- it is at work on its next place for the rank j
abbrev pub is_filling : Work → ℕ → Bool
is_filling Idle j = false
is_filling (Filling t) j = pick (ℕ_discrete t j) true false
is_filling (Emptying t p) j = false

-- what it is taking from its next place of the rank i
abbrev pub emptying : Work → ℕ → Option Load
emptying Idle i = None
emptying (Filling t) i = None
emptying (Emptying t p) i = pick (ℕ_discrete t i) (Some (Some p)) None

-- the flag of a full place
abbrev pub mark : Load → ℕ
mark y = 1

-- the k-th of the four places from the rank i to the rank j
abbrev pub place : ℕ → ℕ → ℕ → ℕ → ℕ
place n i j k = 4 * (i * n + j) + k

-- the k-th piece has the number k, and is of the rank i
abbrev pub AreOf : ℕ → List Piece → Type 0
AreOf i ps = (k : ℕ) (p : Piece) → get_elem? ps k ≡ maybe.some p → (p.from ≡ i) × (p.number ≡ k)

-- The places from the rank i to the rank j, of which the one knows e and the other f: what was pushed is
-- what was pulled, and then what waits in the full places
pub record Ring (n : ℕ) (words : List ℕ) (homes : List (maybe.Option Load)) (i j : ℕ)
    (e f : Entry) : Type 0 where
  pub waits : List Piece
  pub places : Window 4 None mark Any (λ k. slice_index words (place n i j k))
      (λ k. get_elem? homes (place n i j k)) (is_filling e.work j) (emptying f.work i)
      (map Some (lane e j).pushed) (map Some (lane f i).pulled) (map Some waits)
  pub numbered : AreOf i (lane e j).pushed

-- the entry of the rank r, of n
abbrev pub Knows : ℕ → ℕ → Entry → Type 0
Knows n r e = (e.rank ≡ r) × (e.ranks ≡ n) × (length e.lanes ≡ n)

-- what a rank found where it looked last still holds: its next place for that rank is free, or its next
-- place of that rank is full
abbrev pub Holds : ℕ → List ℕ → Entry → Type 0
Holds n words e = (j : ℕ) → j < n
    → (e.look ≡ Free j → slice_index words (place n e.rank j (length (lane e j).pushed % 4)) ≡ 0)
    × (e.look ≡ Full j → 0 < slice_index words (place n j e.rank (length (lane e j).pulled % 4)))

-- What holds between any two steps of any ranks: each entry stands in one view, the places of each pair
-- are a window of its pieces, and what a rank found holds until it steps on
pub record Rule (n : ℕ) (s : State Load (View Entry)) : Type 0 where
  pub ledger : ℕ → Entry
  pub spoken : Spoken rank_of ledger s.views
  pub knows : (r : ℕ) → r < n → Knows n r (ledger r)
  pub long : length s.words ≡ 4 * (n * n)
  pub rings : (i j : ℕ) → i < n → j < n → Ring n s.words s.homes i j (ledger i) (ledger j)
  pub looks : (r : ℕ) → r < n → Holds n s.words (ledger r)

-- a rank of n at the start
abbrev pub newcomer : ℕ → ℕ → Entry
newcomer n r = record {
  rank = r;
  ranks = n;
  lanes = replicate n new_lane;
  work = Idle;
  look = Fresh;
}

-- the k ranks from r on
abbrev pub newcomers : ℕ → ℕ → ℕ → List Entry
newcomers n r zero = []
newcomers n r (suc k) = newcomer n r ∷ newcomers n (suc r) k

-- the view of the first seat, which speaks for all ranks
abbrev pub first_view : ℕ → View Entry
first_view n = view (newcomers n 0 n)
