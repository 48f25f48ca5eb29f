-- States in which no rank has a move left.
use Rattle.std.specs.Prelude.{◌≡◌, ℕ, ◌<◌, Bool, true, false, Option, Some, None, List, count_by}
use Rattle.nm_types.specs.declared.scripts.Command.{Command}
use Rattle.nm_types.specs.declared.scripts.Command.TheVariants as command
use Rattle.nm_types.specs.declared.scripts.Line.{Line}
use Rattle.nm_types.specs.Commands.{command_at, commands_of}
use Rattle.nm_outcomes.specs.Looks.{is_answer_by}
use Rattle.nm_outcomes.specs.RankStates.{Spot}
use Rattle.nm_explored.specs.Successors.{answer_in, is_withdrawn_next, message_next}
use Rattle.nm_explored.specs.Lines.{line_in}

-- a command that can be held up
abbrev pub is_waiting : Command → Bool
is_waiting (command.Wait q) = true
is_waiting (command.Await from tag ctx) = true
is_waiting _ = false

-- the next command of a rank in this state has no answer
abbrev pub IsHeldUp : List Line → (ℕ → Option Spot) → ℕ → Spot → Type 0
IsHeldUp lines v i spot =
    (line : ℕ) (c : Command) → line_in lines i (count_by is_answer_by spot.deeds) ≡ Some line →
    command_at (commands_of i lines) line ≡ Some c →
    (is_waiting c ≡ true) × (answer_in v lines i spot line c ≡ None)

-- a rank has no move left, and is at its end or held up
pub record IsAtRest (ranks : ℕ) (lines : List Line) (v : ℕ → Option Spot) (i : ℕ) : Type 0 where
  pub held : (spot : Spot) → v i ≡ Some spot → IsHeldUp lines v i spot
  pub messages : (from : ℕ) → from < ranks → message_next v i from ≡ None
  pub free : (from n : ℕ) → is_withdrawn_next v i from n ≡ false

-- no rank has a move left
abbrev pub AreAtRest : ℕ → List Line → (ℕ → Option Spot) → Type 0
AreAtRest ranks lines v = (i : ℕ) → i < ranks → IsAtRest ranks lines v i
