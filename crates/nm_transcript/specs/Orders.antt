-- The commands of all ranks in one list.
use Rattle.std.specs.Prelude.{◌≡◌, ℕ, List, [], ◌∷◌, ◌++◌, Some, map, set, unwrap_or}
use Rattle.std.specs.List.{slice_get}
use Rattle.nm_types.specs.declared.scripts.Command.{Command}
use Rattle.nm_types.specs.declared.scripts.Line.{Line}
use Rattle.nm_types.specs.Commands.{commands_of, rank_line}
use Rattle.nm_types.specs.Limits.{IsScript}
use Rattle.nm_transcript.specs.declared.transcripts.Refusal.{Refusal}
use Rattle.nm_transcript.specs.declared.transcripts.Refusal.TheVariants.{Memory, TooLong}

-- the commands of a rank, and of no rank none
abbrev pub calls_of : List (List Command) → ℕ → List Command
calls_of given rank = unwrap_or (slice_get given rank) []

-- the rank has a command
pub record HasNext (rest : List (List Command)) (rank : ℕ) : Type 0 where
  pub call : Command
  pub others : List Command
  pub is : slice_get rest rank ≡ Some (call ∷ others)

-- the first command of a rank became the last line
pub record IsGiven (rank : ℕ) (rest : List (List Command)) (lines : List Line) (later : List (List Command))
    (more : List Line) : Type 0 where
  pub call : Command
  pub others : List Command
  pub was : slice_get rest rank ≡ Some (call ∷ others)
  pub is : later ≡ set rest rank others
  pub line : more ≡ lines ++ rank_line rank call ∷ []

-- the commands of a rank in these lines, without the lines' numbers
abbrev pub calls_in : List Line → ℕ → List Command
calls_in lines rank = map (λ c. c.command) (commands_of rank lines)

-- the commands of each rank in these lines are all that were given
abbrev pub AreAll : List Line → List (List Command) → Type 0
AreAll lines given = (rank : ℕ) → calls_in lines rank ≡ calls_of given rank

-- they are the first ones, and these are left
abbrev pub AreFirst : List Line → List (List Command) → List (List Command) → Type 0
AreFirst lines rest given = (rank : ℕ) → calls_in lines rank ++ calls_of rest rank ≡ calls_of given rank

-- Lines that have the first commands of each rank, or all, keep not the limits of a script.
pub record IsTooLong (ranks : ℕ) (given : List (List Command)) : Type 0 where
  pub lines : List Line
  pub rest : List (List Command)
  pub first : AreFirst lines rest given
  pub breaks : ¬ (IsScript ranks lines)

-- why these commands are no script of so many ranks
abbrev pub IsNoScript : ℕ → List (List Command) → Refusal → Type 0
IsNoScript ranks given Memory = Unit {0}
IsNoScript ranks given TooLong = IsTooLong ranks given
