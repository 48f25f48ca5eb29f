-- States that the ranks of a script come into, and how many there are.
use Rattle.std.specs.Prelude.{◌≡◌, ℕ, ◌<◌, Option, Some, None, List, [], ◌∷◌, length, replicate}
use Rattle.std.specs.List.{slice_get, slice_set}
use Rattle.nm_types.specs.declared.scripts.Line.{Line}
use Rattle.nm_outcomes.specs.RankStates.{Spot, first_spot}
use Rattle.nm_explored.specs.declared.choices.moves.Turn.{Turn}
use Rattle.nm_explored.specs.declared.stores.Way.{Way}
use Rattle.nm_explored.specs.Moves.{IsTurn, moved_at}
use Rattle.nm_explored.specs.declared.ends.Explored.{Explored}
use Rattle.nm_explored.specs.declared.ends.Explored.TheVariants.{All, TooMany}
use Rattle.nm_search.specs.Lists.{StandOnce}
use Rattle.nm_explored.specs.Stores.{AreLow, Store, states_in}

-- these moves, the newest first, lead to a state from the first one, in which no rank did anything
abbrev pub IsWay : ℕ → ℕ → List Line → List Turn → List Spot → Type 0
IsWay eager ranks lines [] state = state ≡ replicate ranks first_spot
IsWay eager ranks lines (t ∷ ts) state =
    (before : List Spot) × IsWay eager ranks lines ts before
    × (turn : IsTurn eager ranks lines (λ i. slice_get before i) t)
    × (state ≡ slice_set before t.rank (moved_at turn.spot t.by))

-- a state of all ranks that moves lead to
abbrev pub IsMet : ℕ → ℕ → List Line → List Spot → Type 0
IsMet eager ranks lines state = (ts : List Turn) × IsWay eager ranks lines ts state

-- moves lead to more states than the bound, which differ
pub record AreTooMany (eager ranks : ℕ) (lines : List Line) (bound : ℕ) : Type 0 where
  pub states : List (List Spot)
  pub many : bound < length states
  pub differ : StandOnce states
  pub met : (k : ℕ) (state : List Spot) → slice_get states k ≡ Some state → IsMet eager ranks lines state

-- what holds where there are too many states
abbrev pub IfTooMany : Type 0 → Explored → Type 0
IfTooMany P (All ends) = Unit {0}
IfTooMany P TooMany = P

-- there are not too many states
abbrev pub IsAll : Explored → Type 0
IsAll (All ends) = Unit {0}
IsAll TooMany = ⊥

-- the states of the ranks are in the table, and moves lead to them
pub record IsSound (eager ranks : ℕ) (lines : List Line) (table : List Spot) (ids : List ℕ) : Type 0 where
  pub low : AreLow table ids
  pub met : IsMet eager ranks lines (states_in table ids)

-- the state with number k comes of one with a smaller number by the move that the store has
pub record IsStep (eager ranks : ℕ) (lines : List Line) (store : Store) (k : ℕ) (ids : List ℕ)
    (way : Way) : Type 0 where
  pub before : List ℕ
  pub here : slice_get store.states way.before ≡ Some before
  pub low : way.before < k
  pub turn : IsTurn eager ranks lines (λ i. slice_get (states_in store.table before) i)
      (record { rank = way.rank; by = way.by })
  pub state :
      states_in store.table ids
      ≡ slice_set (states_in store.table before) way.rank (moved_at turn.spot way.by)

-- .. or is the first one
abbrev pub IsBack : ℕ → ℕ → List Line → Store → ℕ → List ℕ → Option Way → Type 0
IsBack eager ranks lines store k ids None = states_in store.table ids ≡ replicate ranks first_spot
IsBack eager ranks lines store k ids (Some way) = IsStep eager ranks lines store k ids way

-- the store has how each of its states was found
pub record AreBack (eager ranks : ℕ) (lines : List Line) (store : Store) : Type 0 where
  pub as_many : length store.ways ≡ length store.states
  pub back : (k : ℕ) (ids : List ℕ) (way : Option Way) → slice_get store.states k ≡ Some ids →
      slice_get store.ways k ≡ Some way → IsBack eager ranks lines store k ids way

-- each state is there once, and moves lead to it
pub record IsMade (eager ranks : ℕ) (lines : List Line) (store : Store) : Type 0 where
  pub table : StandOnce store.table
  pub states : StandOnce store.states
  pub sound : (k : ℕ) (ids : List ℕ) → slice_get store.states k ≡ Some ids →
      IsSound eager ranks lines store.table ids
