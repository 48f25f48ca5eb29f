-- The ends of a search, and what the ranks told there.
use Rattle.std.specs.Prelude.{◌≡◌, ℕ, ◌<◌, Contains, Option, Some, List, count_by, filter_map}
use Rattle.std.specs.Prelude.{length, map, option_map}
use Rattle.std.specs.List.{range_with_len, slice_get}
use Rattle.nm_types.specs.declared.scripts.Command.{Command}
use Rattle.nm_types.specs.declared.scripts.Line.{Line}
use Rattle.nm_types.specs.Commands.{command_at, commands_of}
use Rattle.nm_types.specs.Limits.{sent_len}
use Rattle.nm_types.specs.Sizes.{Sizes}
use Rattle.nm_report.specs.declared.records.RunRecord.{RunRecord}
use Rattle.nm_report.specs.Lawful.{IsRunIn}
use Rattle.nm_report.specs.Told.{RankTold, told_by, told_of, told_of_rank}
use Rattle.nm_outcomes.specs.Deeds.{happening}
use Rattle.nm_outcomes.specs.Looks.{is_answer_by}
use Rattle.nm_outcomes.specs.RankStates.{Spot}
use Rattle.nm_explored.specs.Successors.{spot_in}
use Rattle.nm_search.specs.Lists.{Has}
use Rattle.nm_explored.specs.Lines.{line_in}
use Rattle.nm_explored.specs.declared.ends.End.{End}
use Rattle.nm_explored.specs.declared.ends.Explored.{Explored}
use Rattle.nm_explored.specs.declared.ends.Explored.TheVariants.{All, TooMany}
use Rattle.nm_explored.specs.Met.{AreBack, IsMet, IsWay}
use Rattle.nm_explored.specs.Rests.{AreAtRest}
use Rattle.nm_explored.specs.Stores.{Store, states_in}

-- what a rank in this state told
abbrev pub told_in : List Line → ℕ → Spot → RankTold
told_in lines i spot =
    record {
      answers = filter_map (λ d. told_by (happening lines d)) spot.deeds;
      waits = line_in lines i (count_by is_answer_by spot.deeds);
    }

-- what the first ranks in these states told
abbrev pub all_told : List Line → (ℕ → Option Spot) → ℕ → List RankTold
all_told lines v ranks = filter_map (λ i. option_map (told_in lines i) (v i)) (range_with_len 0 ranks)

-- what an end tells, by rank
abbrev pub told_at_end : End → List RankTold
told_at_end end = map told_of_rank end.told

-- these ends tell what is told at each state at which all ranks are at rest
abbrev pub AreEnds : ℕ → List Line → Store → List End → Type 0
AreEnds ranks lines store ends =
    (k : ℕ) (ids : List ℕ) → slice_get store.states k ≡ Some ids →
    AreAtRest ranks lines (spot_in store.table ids) →
    Has (map told_at_end ends) (all_told lines (spot_in store.table ids) ranks)

-- this is told where the ranks are in these states, and none has a move left
abbrev pub IsToldIn : ℕ → List Line → (ℕ → Option Spot) → List RankTold → Type 0
IsToldIn ranks lines v told = AreAtRest ranks lines v × (told ≡ all_told lines v ranks)

-- so it is with one of the states of a store
abbrev pub IsToldAmong : ℕ → List Line → Store → List RankTold → Type 0
IsToldAmong ranks lines store told =
    (k : ℕ) × (ids : List ℕ) × (slice_get store.states k ≡ Some ids)
    × IsToldIn ranks lines (spot_in store.table ids) told

-- these ends tell nothing else
abbrev pub AreOnlyEnds : ℕ → List Line → Store → List End → Type 0
AreOnlyEnds ranks lines store ends =
    (told : List RankTold) → Has (map told_at_end ends) told → IsToldAmong ranks lines store told

-- an end tells what is told at one of the states of a store at which no rank has a move left, and its moves lead there
pub record IsEndAmong (eager ranks : ℕ) (lines : List Line) (store : Store) (end : End) : Type 0 where
  pub number : ℕ
  pub ids : List ℕ
  pub here : slice_get store.states number ≡ Some ids
  pub told : IsToldIn ranks lines (spot_in store.table ids) (told_at_end end)
  pub way : AreBack eager ranks lines store → IsWay eager ranks lines end.path.items (states_in store.table ids)

-- so do all of these ends
abbrev pub AreEndsAmong : ℕ → ℕ → List Line → Store → List End → Type 0
AreEndsAmong eager ranks lines store ends = (end : End) → Has ends end → IsEndAmong eager ranks lines store end

-- the moves of an end lead to a state at which no rank has a move left, and it tells what is told there
pub record IsEndByWay (shape : Sizes) (lines : List Line) (end : End) : Type 0 where
  pub state : List Spot
  pub way : IsWay shape.eager shape.ranks lines end.path.items state
  pub rest : AreAtRest shape.ranks lines (λ i. slice_get state i)
  pub told : told_at_end end ≡ all_told lines (λ i. slice_get state i) shape.ranks

-- so do those of all ends
abbrev pub AreEndsByWay : Sizes → List Line → List End → Type 0
AreEndsByWay shape lines ends = (end : End) → Has ends end → IsEndByWay shape lines end

-- this is told at a state that moves lead to, at which no rank has a move left
pub record IsToldAtRest (eager ranks : ℕ) (lines : List Line) (told : List RankTold) : Type 0 where
  pub state : List Spot
  pub met : IsMet eager ranks lines state
  pub rest : AreAtRest ranks lines (λ i. slice_get state i)
  pub told_is : told ≡ all_told lines (λ i. slice_get state i) ranks

-- what a script sends at once is short, and so is the script
pub record AreShort (lines : List Line) : Type 0 where
  pub sends : (i line : ℕ) (c : Command) → command_at (commands_of i lines) line ≡ Some c → sent_len c < 4294967296
  pub count : length lines < 4294967293

-- each run of the script tells what one of these ends tells
abbrev pub TellsAll : Sizes → List Line → List End → Type 0
TellsAll shape lines ends =
    (run : RunRecord) → IsRunIn shape lines run → Contains (map told_at_end ends) (told_of run)

-- what each of these ends tells is told at rest
abbrev pub TellsOnly : Sizes → List Line → List End → Type 0
TellsOnly shape lines ends =
    (told : List RankTold) → Has (map told_at_end ends) told → IsToldAtRest shape.eager shape.ranks lines told

-- what holds of all ends, if there are not too many states
abbrev pub IfAll : (List End → Type 0) → Explored → Type 0
IfAll P (All ends) = P ends
IfAll P TooMany = Unit {0}
