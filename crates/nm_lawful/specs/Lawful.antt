-- What can be told, by MPI's text alone.
use Rattle.std.specs.Prelude.{◌≡◌, ◌⊎◌, ℕ, zero, suc, ◌==◌, ◌&&◌, Bool, true, false, IsTrue, nat_lt, is_some}
use Rattle.std.specs.Prelude.{Option, Some, None, take}
use Rattle.std.specs.Prelude.{List}
use Rattle.std.specs.List.{slice_get}
use Rattle.std.specs.Option.{option_map_or}
use Rattle.nm_types.specs.declared.scripts.Line.{Line}
use Rattle.nm_lawful.specs.declared.moves.Move.{Move}
use Rattle.nm_lawful.specs.Moves.{Goes, Report, next_lem, next_of_lem, told_at_lem}
use Rattle.nm_lawful.specs.Ranks.{RankState}
use Rattle.nm_lawful.specs.Replies.{is_held_lem}
use Rattle.nm_lawful.specs.States.{first_state}

-- so many moves lead from one state to another
abbrev pub IsPath : List Line → Report → Option ℕ → ℕ → List RankState → List RankState → Type 0
IsPath lines told until zero s t = s ≡ t
IsPath lines told until (suc n) s t = (u : List RankState) × Goes lines told until s u × IsPath lines told until n u t

-- the line at a place has run
abbrev pub has_run_lem : List Line → List RankState → ℕ → Bool
has_run_lem lines state place =
    option_map_or (λ l. option_map_or (λ rank. nat_lt place rank.at) (slice_get state l.rank) false)
    (slice_get lines place) false

-- each line has run of which an answer is told that counts
abbrev pub AllTold : List Line → Report → Option ℕ → List RankState → Type 0
AllTold lines told until state =
    (place : ℕ) → IsTrue (is_some (told_at_lem told until place)) → IsTrue (has_run_lem lines state place)

-- a rank with this next line rests as it is said to: it waits there and is held up, or is at its end
abbrev pub rests_at_lem : List Line → List RankState → ℕ → RankState → Option ℕ → Option ℕ → Bool
rests_at_lem lines state i rank None None = true
rests_at_lem lines state i rank (Some place) (Some wait) =
    place == wait && option_map_or (λ l. is_held_lem state i rank l.command) (slice_get lines place) false
rests_at_lem lines state i rank next wait = false

-- .. if it is said of the rank
abbrev pub rests_lem : List Line → Report → List RankState → ℕ → Bool
rests_lem lines told state i =
    option_map_or
    (λ wait. option_map_or
    (λ rank. rests_at_lem lines state i rank (next_of_lem lines i rank.at) wait) (slice_get state i) true)
    (slice_get told.waits i) true

-- At rest no move can be made, so no pair, and each rank is at its end or waits, as is said.
pub record IsAtRest (lines : List Line) (told : Report) (state : List RankState) : Type 0 where
  pub still : (m : Move) → next_lem lines told None state m ≡ None
  pub held : (i : ℕ) → IsTrue (rests_lem lines told state i)

-- all that counts is told; where all answers count, at rest
abbrev pub IsEnd : List Line → Report → Option ℕ → List RankState → Type 0
IsEnd lines told (Some moment) state = AllTold lines told (Some moment) state
IsEnd lines told None state = AllTold lines told None state × IsAtRest lines told state

-- a path leads from the first state to an end
pub record CanTell (lines : List Line) (told : Report) (ranks : ℕ) (until : Option ℕ) : Type 0 where
  pub moves : ℕ
  pub state : List RankState
  pub path : IsPath lines told until moves (first_state ranks) state
  pub end : IsEnd lines told until state

-- a run that comes to rest as is said tells these answers, and no other ones
abbrev pub IsLawful : List Line → Report → ℕ → Type 0
IsLawful lines told ranks = CanTell lines told ranks None

-- a run can have told the answers before a moment by then, and no other ones
abbrev pub MayTell : List Line → Report → ℕ → ℕ → Type 0
MayTell lines told ranks moment = CanTell lines told ranks (Some moment)

-- .. that comes to rest as is said of the ranks below one
abbrev pub MayRest : List Line → Report → ℕ → ℕ → Type 0
MayRest lines told ranks i = IsLawful lines (record { said = told.said; waits = take i told.waits }) ranks

-- .. or this is not asked: it is the first rank
abbrev pub RestsBelow : List Line → Report → ℕ → ℕ → Type 0
RestsBelow lines told ranks i = (i ≡ 0) ⊎ MayRest lines told ranks i
