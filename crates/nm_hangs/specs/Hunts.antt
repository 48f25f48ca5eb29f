-- A search for a state at which a rank is stuck.
use Rattle.std.specs.Prelude.{◌≡◌, ◌⊎◌, ℕ, ◌<◌, ◌++◌, false, Option, Some, List, [], ◌∷◌, is_none, length}
use Rattle.std.specs.List.{list_all, slice_get}
use Rattle.nm_types.specs.declared.scripts.Line.{Line}
use Rattle.nm_outcomes.specs.RankStates.{Spot}
use Rattle.nm_explored.specs.Ends.{all_told}
use Rattle.nm_explored.specs.Rests.{AreAtRest}
use Rattle.nm_explored.specs.Stores.{AreLow, IsExpanded, Store}
use Rattle.nm_explored.specs.Successors.{spot_in}
use Rattle.nm_search.specs.Lists.{Has}
use Rattle.nm_hangs.specs.Alike.{AreAlike, IsAlikeOr}
use Rattle.nm_hangs.specs.declared.hunts.Ahead.{Ahead}
use Rattle.nm_hangs.specs.declared.hunts.Hunted.{Hunted}
use Rattle.nm_hangs.specs.declared.hunts.Hunted.TheVariants.{Stuck, Never, Open}

-- in these states of all ranks none has a move left, and one waits
pub record IsStuckAt (ranks : ℕ) (lines : List Line) (v : ℕ → Option Spot) : Type 0 where
  pub rest : AreAtRest ranks lines v
  pub waits : list_all (λ rank. is_none rank.waits) (all_told lines v ranks) ≡ false

-- so it is at the state of a store with this number
abbrev pub IsStuckIn : ℕ → List Line → Store → ℕ → Type 0
IsStuckIn ranks lines store k =
    (ids : List ℕ) × (slice_get store.states k ≡ Some ids) × IsStuckAt ranks lines (spot_in store.table ids)

-- a state of a store is expanded, and no rank is stuck there
pub record IsLookedAt (eager ranks : ℕ) (lines : List Line) (store : Store) (ids : List ℕ) : Type 0 where
  pub expanded : IsExpanded eager ranks lines store ids
  pub free : ¬ (IsStuckAt ranks lines (spot_in store.table ids))

-- the states with these numbers are in the table, and go on alike
abbrev pub AreAlikeIn : List Line → List Spot → List ℕ → List ℕ → Type 0
AreAlikeIn lines table ids other =
    AreLow table ids × AreLow table other × AreAlike lines (spot_in table ids) (spot_in table other)

-- each state of a store goes on as one that was looked at
abbrev pub AreLookedAt : ℕ → ℕ → List Line → Store → Type 0
AreLookedAt eager ranks lines store =
    (k : ℕ) (ids : List ℕ) → slice_get store.states k ≡ Some ids →
    (other : List ℕ) × Has store.states other × AreAlikeIn lines store.table ids other
    × IsLookedAt eager ranks lines store other

-- The state nearby has these classes: where a rank is in a state of it, it goes on as the one that the class names.
abbrev pub AreNear : List Line → List Spot → List ℕ → List ℕ → Type 0
AreNear lines table near classes =
    (j id class : ℕ) → slice_get near j ≡ Some id → slice_get classes j ≡ Some class →
    IsAlikeOr lines j (slice_get table id) (slice_get table class)

-- a state that is to be looked at, and goes on as the classes that it names
abbrev pub IsNearBy : List Line → Store → List (List ℕ) → Ahead → Type 0
IsNearBy lines store met e =
    (ids classes : List ℕ) × (slice_get store.states e.state ≡ Some ids) × (slice_get met e.classes ≡ Some classes)
    × AreAlikeIn lines store.table ids classes

-- a state with this number is to be looked at
abbrev pub IsAhead : List Ahead → ℕ → Type 0
IsAhead ahead k = (e : Ahead) × Has ahead e × (e.state ≡ k)

-- a state of the store that goes on as these is to be looked at, or was
abbrev pub IsCovered : ℕ → ℕ → List Line → Store → List Ahead → List ℕ → Type 0
IsCovered eager ranks lines store ahead classes =
    (k : ℕ) × (ids : List ℕ) × (slice_get store.states k ≡ Some ids) × AreAlikeIn lines store.table ids classes
    × (IsAhead ahead k ⊎ IsLookedAt eager ranks lines store ids)

-- These states are to be looked at. Of those before the n-th each goes on as one that was met; of those that were met,
-- one that goes on alike is to be looked at, or was.
pub record AreOpen (eager ranks : ℕ) (lines : List Line) (store : Store) (met : List (List ℕ)) (ahead : List Ahead)
    (n : ℕ) : Type 0 where
  pub near : (e : Ahead) → Has ahead e → IsNearBy lines store met e
  pub classed : (k : ℕ) (ids : List ℕ) → k < n → slice_get store.states k ≡ Some ids →
      (classes : List ℕ) × Has met classes × AreAlikeIn lines store.table ids classes
  pub covered : (classes : List ℕ) → Has met classes → IsCovered eager ranks lines store ahead classes

-- these states, with the number n, were met: if none was that goes on alike, they are to be looked at
abbrev pub IsNoted : List Line → List Spot → List ℕ → ℕ → List (List ℕ) → List (List ℕ) → List Ahead → List Ahead →
    Type 0
IsNoted lines table ids n old new before ahead =
    (classes : List ℕ) × AreAlikeIn lines table ids classes × Has new classes
    × (((new ≡ old) × (ahead ≡ before))
    ⊎ ((new ≡ old ++ classes ∷ []) × (ahead ≡ before ++ record { state = n; classes = length old } ∷ [])))

-- what such a search answers is so
abbrev pub IsHunted : ℕ → ℕ → List Line → ℕ → Store → Hunted → Type 0
IsHunted eager ranks lines limit store (Stuck k) = IsStuckIn ranks lines store k
IsHunted eager ranks lines limit store Never = AreLookedAt eager ranks lines store
IsHunted eager ranks lines limit store Open = limit < length store.states
