-- The states that a search has found.
use Rattle.std.specs.Prelude.{◌≡◌, ℕ, ◌<◌, Option, Some, List, [], ◌∷◌, length, map}
use Rattle.std.specs.List.{range_with_len, slice_get, slice_index_or, slice_set}
use Rattle.nm_types.specs.declared.scripts.Line.{Line}
use Rattle.nm_outcomes.specs.Searches as searches
use Rattle.nm_outcomes.specs.RankStates.{Spot, first_spot}
use Rattle.nm_explored.specs.declared.stores.Unpacked.{Unpacked}
use Rattle.nm_explored.specs.declared.stores.Way.{Way}
use Rattle.nm_explored.specs.Successors.{spot_in}
use Rattle.nm_search.specs.Lists.{Has, Extends}
use Rattle.nm_explored.specs.Chosen.{Goes}
use Rattle.nm_explored.specs.Coming.{AreEnoughAt, Makes}

-- the states of single ranks, by number, and the states of all ranks: the numbers of theirs, and how each was found
pub record Store : Type 0 where
  pub table : List Spot
  pub states : List (List ℕ)
  pub ways : List (Option Way)

-- what one store has, the other one has too, under the same numbers
pub record Grows (old new : Store) : Type 0 where
  pub table : Extends old.table new.table
  pub states : Extends old.states new.states

-- the states of the ranks, of which these are the numbers
abbrev pub states_in : List Spot → List ℕ → List Spot
states_in table ids = map (λ id. slice_index_or table id first_spot) ids

-- these are numbers of states in the table
abbrev pub AreLow : List Spot → List ℕ → Type 0
AreLow table ids = (j id : ℕ) → slice_get ids j ≡ Some id → id < length table

-- so it is of each state of a store
abbrev pub AreAllLow : Store → Type 0
AreAllLow store = (k : ℕ) (ids : List ℕ) → slice_get store.states k ≡ Some ids → AreLow store.table ids

-- these are the states of all ranks that have their numbers
pub record AreOf (table : List Spot) (all : Unpacked) : Type 0 where
  pub low : AreLow table all.ids.items
  pub ranks : all.ranks.items ≡ states_in table all.ids.items
  pub places : all.places.items ≡ range_with_len 0 (length all.ids.items)

-- .. with these numbers
abbrev pub AreAt : List Spot → List ℕ → Unpacked → Type 0
AreAt table ids all = AreOf table all × ((j : ℕ) → slice_get all.ids.items j ≡ slice_get ids j)

-- these are the states of all ranks at the state of a store with this number
abbrev pub Shows : Store → ℕ → Unpacked → Type 0
Shows store k all =
    (ids : List ℕ) → slice_get store.states k ≡ Some ids →
    spot_in all.ranks.items all.places.items ≡ spot_in store.table ids

-- a state of all ranks is there
abbrev pub IsThere : Store → List Spot → Type 0
IsThere store state =
    (ids : List ℕ) × Has store.states ids × AreLow store.table ids × (states_in store.table ids ≡ state)

-- the state is there that comes of this one where rank i goes into another state
pub record Leads (store : Store) (ids : List ℕ) (i : ℕ) (s : Spot) : Type 0 where
  pub id : ℕ
  pub spot : slice_get store.table id ≡ Some s
  pub state : Has store.states (slice_set ids i id)

-- The moves of a state lead to states that are there: all of them, or those that are enough.
pub record IsExpanded (eager ranks : ℕ) (lines : List Line) (store : Store) (ids : List ℕ) : Type 0 where
  pub state : List Spot
  pub low : AreLow store.table ids
  pub is : states_in store.table ids ≡ state
  pub leads : searches.IsExplored (Goes eager ranks lines) (AreEnoughAt ranks lines) (Makes eager ranks lines)
      (IsThere store)
      state

-- each of the first states is expanded
abbrev pub AreExpanded : ℕ → ℕ → List Line → Store → ℕ → Type 0
AreExpanded eager ranks lines store n =
    (k : ℕ) (ids : List ℕ) → k < n → slice_get store.states k ≡ Some ids →
    IsExpanded eager ranks lines store ids

-- one state is there, in which no rank did anything
pub record IsFirst (ranks : ℕ) (store : Store) : Type 0 where
  pub ids : List ℕ
  pub only : store.states ≡ ids ∷ []
  pub idle : (j : ℕ) → j < ranks → spot_in store.table ids j ≡ Some first_spot

-- A state is there, in which no rank did anything, and of each state that is there, all that its moves, or
-- those of them that are enough, lead to.
pub record IsExplored (eager ranks : ℕ) (lines : List Line) (store : Store) : Type 0 where
  pub first : List ℕ
  pub found : Has store.states first
  pub idle : (j : ℕ) → j < ranks → spot_in store.table first j ≡ Some first_spot
  pub expanded : (k : ℕ) (ids : List ℕ) → slice_get store.states k ≡ Some ids →
      IsExpanded eager ranks lines store ids
