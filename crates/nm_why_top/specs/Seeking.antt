-- A search for one run that hangs, or for one that ends (MPI 3.1, 3.5 and 3.7.3).
use Rattle.std.specs.Prelude.{◌≡◌, ◌⊎◌, ℕ, ◌<◌, Bool, true, false, Option, Some, List, length}
use Rattle.std.specs.List.{slice_get}
use Rattle.nm_types.specs.declared.scripts.Line.{Line}
use Rattle.nm_types.specs.Sizes.{Sizes}
use Rattle.nm_report.specs.declared.records.RunRecord.{RunRecord}
use Rattle.nm_report.specs.Lawful.{IsRunIn}
use Rattle.nm_report.specs.Told.{told_of}
use Rattle.nm_outcomes.specs.RankStates.{Spot}
use Rattle.nm_explored.specs.declared.choices.moves.Turn.{Turn}
use Rattle.nm_explored.specs.Ends.{all_told}
use Rattle.nm_explored.specs.Met.{IsWay}
use Rattle.nm_explored.specs.Rests.{AreAtRest}
use Rattle.nm_explored.specs.Stores.{IsExpanded, Store}
use Rattle.nm_explored.specs.Successors.{spot_in}
use Rattle.nm_search.specs.Lists.{Has}
use Rattle.nm_why.specs.Hangs.{is_hung}
use Rattle.nm_why_top.specs.declared.seeking.Seen.{Seen}
use Rattle.nm_why_top.specs.declared.seeking.Seen.TheVariants.{By, Never, Open}
use Rattle.nm_why_top.specs.declared.seeking.Sight.{Sight}
use Rattle.nm_why_top.specs.declared.seeking.Sight.TheVariants as sight
use Rattle.nm_why_top.specs.declared.seeking.Sought.{Sought}
use Rattle.nm_why_top.specs.declared.seeking.Sought.TheVariants.{Hang, End}

-- whether a rank waits at the end of a run that is sought
abbrev pub hung_at : Sought → Bool
hung_at Hang = true
hung_at End = false

-- a lawful run of the script in these sizes ends so
abbrev pub Can : Sought → Sizes → List Line → Type 0
Can sought shape lines = (run : RunRecord) × IsRunIn shape lines run × (is_hung (told_of run) ≡ hung_at sought)

-- in these states of all ranks none has a move left, and one waits, or none, as is sought
pub record IsSought (sought : Sought) (ranks : ℕ) (lines : List Line) (v : ℕ → Option Spot) : Type 0 where
  pub rest : AreAtRest ranks lines v
  pub hung : is_hung (all_told lines v ranks) ≡ hung_at sought

-- so it is at the state of a store with this number
abbrev pub IsSoughtIn : Sought → ℕ → List Line → Store → ℕ → Type 0
IsSoughtIn sought ranks lines store k =
    (ids : List ℕ) × (slice_get store.states k ≡ Some ids) × IsSought sought ranks lines (spot_in store.table ids)

-- a state of a store is expanded, and is none that is sought
pub record IsPassed (sought : Sought) (eager ranks : ℕ) (lines : List Line) (store : Store)
    (ids : List ℕ) : Type 0 where
  pub expanded : IsExpanded eager ranks lines store ids
  pub other : ¬ (IsSought sought ranks lines (spot_in store.table ids))

-- each state of a store is to be looked at, by its number, or was, and is none that is sought
pub record AreAhead (sought : Sought) (eager ranks : ℕ) (lines : List Line) (store : Store)
    (ahead : List ℕ) : Type 0 where
  pub low : (k : ℕ) → Has ahead k → k < length store.states
  pub each : (k : ℕ) (ids : List ℕ) → slice_get store.states k ≡ Some ids →
      Has ahead k ⊎ IsPassed sought eager ranks lines store ids

-- what such a search answers is so
abbrev pub IsSight : Sought → ℕ → ℕ → List Line → Store → Sight → Type 0
IsSight sought eager ranks lines store (sight.At k) = IsSoughtIn sought ranks lines store k
IsSight sought eager ranks lines store sight.Nowhere =
    (k : ℕ) (ids : List ℕ) → slice_get store.states k ≡ Some ids → IsPassed sought eager ranks lines store ids
IsSight sought eager ranks lines store sight.Open = Unit {0}

-- moves lead to such states, and so to the end of a lawful run
pub record IsWayTo (sought : Sought) (shape : Sizes) (lines : List Line) (path : List Turn) : Type 0 where
  pub state : List Spot
  pub way : IsWay shape.eager shape.ranks lines path state
  pub is : IsSought sought shape.ranks lines (λ i. slice_get state i)

-- what is known of such a run is so
abbrev pub IsSeen : Sought → Sizes → List Line → Seen → Type 0
IsSeen sought shape lines (By path) = IsWayTo sought shape lines path.items
IsSeen sought shape lines Never = ¬ (Can sought shape lines)
IsSeen sought shape lines Open = Unit {0}
