-- What a search has found, and what it says.
use Rattle.std.specs.Prelude.{◌≡◌, ℕ, ◌+◌, ◌<◌, ◌≤◌, Bool, true, false, IsTrue, Option, Some, List, [], length}
use Rattle.std.specs.List.{slice_get}
use Rattle.nm_types.specs.declared.scripts.Line.{Line}
use Rattle.nm_lawful.specs.declared.judging.Judged.{Judged}
use Rattle.nm_lawful.specs.declared.judging.Judged.TheVariants as judged
use Rattle.nm_lawful.specs.declared.moves.Move.{Move}
use Rattle.nm_lawful.specs.declared.moves.Move.TheVariants as move
use Rattle.nm_lawful.specs.declared.searches.Found.{Found}
use Rattle.nm_lawful.specs.declared.searches.Found.TheVariants as found
use Rattle.nm_lawful.specs.declared.searches.Step.{Step}
use Rattle.nm_lawful.specs.declared.searches.Step.TheVariants as step
use Rattle.nm_lawful.specs.Lawful.{CanTell, IsEnd, IsLawful, IsPath, MayRest, MayTell, RestsBelow, rests_lem}
use Rattle.nm_search.specs.Lists.{AddsOnly, Extends, Has, StandOnce}
use Rattle.nm_lawful.specs.Moves.{Goes, Report, report_lem}
use Rattle.nm_lawful.specs.Ranks.{RankState}
use Rattle.nm_lawful.specs.States.{first_state}

-- the moves of a rank with the message or the receive at a place
pub record HasMoves (i j : ℕ) (moves : List Move) : Type 0 where
  pub take : Has moves (move.Take i j)
  pub withdraw : Has moves (move.Withdraw i j)
  pub off : Has moves (move.Off i j)

-- .. at each place
pub record HasMovesOf (i : ℕ) (rank : RankState) (moves : List Move) : Type 0 where
  pub run : Has moves (move.Run i)
  pub outgoing : (j : ℕ) → j < length rank.outgoing → HasMoves i j moves
  pub requests : (j : ℕ) → j < length rank.requests → HasMoves i j moves

-- .. of each rank
abbrev pub HasAllMoves : List RankState → List Move → Type 0
HasAllMoves state moves = (i : ℕ) (rank : RankState) → slice_get state i ≡ Some rank → HasMovesOf i rank moves

-- moves lead to none of these states, which are all, and each rank rests as it is said to
pub record IsStill (lines : List Line) (told : Report) (state : List RankState) (states : List (List RankState))
    : Type 0 where
  pub none : states ≡ []
  pub held : (i : ℕ) → IsTrue (rests_lem lines told state i)

-- moves lead to the state from the first one
abbrev pub IsMet : List Line → Report → ℕ → Option ℕ → List RankState → Type 0
IsMet lines told ranks until s = (n : ℕ) × IsPath lines told until n (first_state ranks) s

-- the state is no end, and all states that a move leads to from it are there
pub record IsExpanded (lines : List Line) (told : Report) (until : Option ℕ) (states : List (List RankState))
    (s : List RankState) : Type 0 where
  pub no_end : IsEnd lines told until s → ⊥
  pub leads : (t : List RankState) → Goes lines told until s t → Has states t

-- one step of a search, at the state with a number
abbrev pub StepSays : List Line → Report → Option ℕ → List (List RankState) → List (List RankState) → ℕ → Step →
    Type 0
StepSays lines told until old new k step.End =
    (s : List RankState) × (slice_get old k ≡ Some s) × IsEnd lines told until s
StepSays lines told until old new k step.Past = (length old ≤ k) × (new ≡ old)
StepSays lines told until old new k step.On =
    (k < length old)
    × Extends old new
    × AddsOnly (λ t. (s : List RankState) × (slice_get old k ≡ Some s) × Goes lines told until s t) old new
    × ((s : List RankState) → slice_get old k ≡ Some s → IsExpanded lines told until new s)

-- what a search keeps: its states are met, the first one is there, and the first ones are expanded
pub record IsSearched (lines : List Line) (told : Report) (ranks : ℕ) (until : Option ℕ)
    (states : List (List RankState)) (k : ℕ) : Type 0 where
  pub first : Has states (first_state ranks)
  pub met : (s : List RankState) → Has states s → IsMet lines told ranks until s
  pub expanded :
      (j : ℕ) (s : List RankState) → j < k → slice_get states j ≡ Some s →
      IsExpanded lines told until states s

-- moves lead to more states than the limit, which all differ
pub record AreTooMany (lines : List Line) (told : Report) (ranks : ℕ) (until : Option ℕ) (limit : ℕ)
    : Type 0 where
  pub states : List (List RankState)
  pub more : limit < length states
  pub differ : StandOnce states
  pub met : (s : List RankState) → Has states s → IsMet lines told ranks until s

-- what a search says
abbrev pub SearchSays : List Line → Report → ℕ → Option ℕ → ℕ → Found → Type 0
SearchSays lines told ranks until limit found.End = CanTell lines told ranks until
SearchSays lines told ranks until limit found.NoEnd = CanTell lines told ranks until → ⊥
SearchSays lines told ranks until limit found.TooMany = AreTooMany lines told ranks until limit

-- the answers before a moment can be told, and those before a later one can't
pub record AreBounds (lines : List Line) (told : Report) (ranks low high : ℕ) : Type 0 where
  pub order : low ≤ high
  pub early : MayTell lines told ranks low
  pub late : MayTell lines told ranks high → ⊥

-- .. nearer to each other, by what a search at a moment between them found
abbrev pub halved_lem : Found → ℕ → ℕ → ℕ → ℕ × ℕ
halved_lem found.End low middle high = (middle, high)
halved_lem found.NoEnd low middle high = (low, middle)
halved_lem found.TooMany low middle high = (low, middle)

-- a search gave up
abbrev pub is_too_many_lem : Found → Bool
is_too_many_lem found.TooMany = true
is_too_many_lem _ = false

-- What is said of a report: that it is lawful; that it isn't, and which answer is the first in time up to
-- which no run can have told it; or that all answers can be told, and the ranks below this one can rest as is said,
-- but it can't with them.
abbrev pub JudgedSays : List Line → Report → ℕ → ℕ → ℕ → Judged → Type 0
JudgedSays lines told ranks count limit judged.Lawful = IsLawful lines told ranks
JudgedSays lines told ranks count limit (judged.Unlawful moment) =
    (IsLawful lines told ranks → ⊥) × MayTell lines told ranks moment × (MayTell lines told ranks (moment + 1) → ⊥)
JudgedSays lines told ranks count limit (judged.NoRest i) =
    (IsLawful lines told ranks → ⊥)
    × MayTell lines told ranks count
    × RestsBelow lines told ranks i
    × (MayRest lines told ranks (i + 1) → ⊥)
JudgedSays lines told ranks count limit judged.TooMany =
    (waits : List (Option ℕ)) × (until : Option ℕ) × AreTooMany lines (report_lem told.said waits) ranks until limit
