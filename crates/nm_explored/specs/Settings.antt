-- A rank of some ranks that are in given states after a log of a script.
use Rattle.std.specs.Prelude.{◌≡◌, ℕ, ◌<◌, Option, Some, List}
use Rattle.nm_types.specs.declared.scripts.Line.{Line}
use Rattle.nm_types.specs.Commands.{commands_of}
use Rattle.nm_types.specs.Limits.{IsScript}
use Rattle.nm_types.specs.Sizes.{Sizes}
use Rattle.nm_history.specs.Answers.{request_at}
use Rattle.nm_history.specs.Completion.Request.{Sending}
use Rattle.nm_outcomes.specs.Due.{AreAtLines}
use Rattle.nm_outcomes.specs.Logs.{IsLog, Step, history_in}
use Rattle.nm_outcomes.specs.RankStates.{IsSpotOf, Spot}
use Rattle.nm_explored.specs.Moves.{AreSpots}

-- the rank is in this state, and the others are in theirs
pub record IsAt (shape : Sizes) (lines : List Line) (log : List Step) (v : ℕ → Option Spot) (i : ℕ) (spot : Spot)
    : Type 0 where
  pub script : IsScript shape.ranks lines
  pub is_log : IsLog shape lines log
  pub stands : AreSpots shape.ranks lines log v
  pub stand : AreAtLines (commands_of i lines)
  pub within : (line to n : ℕ) → request_at (history_in log i) line ≡ Some (Sending to n) → to < shape.ranks
  pub low : i < shape.ranks
  pub here : v i ≡ Some spot
  pub is : IsSpotOf lines (history_in log i) spot
