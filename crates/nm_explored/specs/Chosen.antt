-- Which moves are enough at a state: those of the next command of one rank, where no other move changes
-- which they are or what they do.
use Rattle.std.specs.Prelude.{◌≡◌, ℕ, ◌<◌, Option, Some, List, count_by}
use Rattle.std.specs.List.{slice_get, slice_set}
use Rattle.nm_types.specs.declared.scripts.Command.{Command}
use Rattle.nm_types.specs.declared.scripts.Command.TheVariants as command
use Rattle.nm_types.specs.declared.scripts.Line.{Line}
use Rattle.nm_types.specs.Commands.{command_at, commands_of}
use Rattle.nm_outcomes.specs.declared.spots.deeds.Deed.{Deed}
use Rattle.nm_outcomes.specs.declared.spots.deeds.Reply.{Reply}
use Rattle.nm_outcomes.specs.Looks.{is_answer_by}
use Rattle.nm_outcomes.specs.RankStates.{Spot, spot_after}
use Rattle.nm_explored.specs.declared.choices.moves.Move.TheVariants as move
use Rattle.nm_explored.specs.declared.choices.moves.Turn.{Turn}
use Rattle.nm_explored.specs.Successors.{answer_in}
use Rattle.nm_explored.specs.Lines.{line_in}
use Rattle.nm_search.specs.Lists.{Has}
use Rattle.nm_explored.specs.Moves.{IsAct, IsTurn, moved_at}
use Rattle.nm_explored.specs.Orderly.{HasNoClaim, IsOrderlyAt}
use Rattle.nm_explored.specs.Started.{AreCalm, AreStarted, HasNoRecall}

-- some rank makes a move, which leads from these states of all ranks to others
abbrev pub Goes : ℕ → ℕ → List Line → List Spot → List Spot → Type 0
Goes eager ranks lines s u =
    (t : Turn) × (t.rank < ranks) × (turn : IsTurn eager ranks lines (λ i. slice_get s i) t)
    × (u ≡ slice_set s t.rank (moved_at turn.spot t.by))

-- The command is a send, a receive, or a wait of a request that may end. Where no message is recalled, no
-- move of another rank, and no message that comes, changes what it does or answers, nor is it in their way;
-- of a receive this is said where its rank claims no message.
abbrev pub IsSettledBy : (ℕ → Option Spot) → List Line → ℕ → Spot → ℕ → Command → Type 0
IsSettledBy v lines i spot line (command.Send to q tag ctx sync body) = Unit {0}
IsSettledBy v lines i spot line (command.Wait q) =
    (r : Reply) × (answer_in v lines i spot line (command.Wait q) ≡ Some r)
IsSettledBy v lines i spot line (command.Recv q from tag ctx cap) = HasNoClaim lines i
IsSettledBy v lines i spot line _ = ⊥

-- so it is with the next command of a rank in this state
pub record IsSettled (lines : List Line) (v : ℕ → Option Spot) (i : ℕ) (spot : Spot) : Type 0 where
  pub line : ℕ
  pub command : Command
  pub place : line_in lines i (count_by is_answer_by spot.deeds) ≡ Some line
  pub at : command_at (commands_of i lines) line ≡ Some command
  pub settled : IsSettledBy v lines i spot line command

-- in these states of all ranks the moves of the next command of rank i are enough
pub record LetsAct (ranks : ℕ) (lines : List Line) (i : ℕ) (s : List Spot) : Type 0 where
  pub no_recall : HasNoRecall lines
  pub started : AreStarted lines s
  pub calm : AreCalm s
  pub orderly : HasNoClaim lines i → IsOrderlyAt i s
  pub inside : i < ranks
  pub spot : Spot
  pub here : slice_get s i ≡ Some spot
  pub settled : IsSettled lines (λ k. slice_get s k) i spot

-- the next command of rank i does something, or answers
abbrev pub Acts : ℕ → List Line → ℕ → List Spot → List Spot → Type 0
Acts eager lines i s u =
    (spot : Spot) × (slice_get s i ≡ Some spot) × (d : Deed) × IsAct eager lines (λ k. slice_get s k) i spot d
    × (u ≡ slice_set s i (spot_after spot d))

-- all moves of one rank's next command, which is settled, are among these
pub record AreActsOfOne (eager ranks : ℕ) (lines : List Line) (v : ℕ → Option Spot) (turns : List Turn) : Type 0 where
  pub rank : ℕ
  pub inside : rank < ranks
  pub spot : Spot
  pub here : v rank ≡ Some spot
  pub no_recall : HasNoRecall lines
  pub settled : IsSettled lines v rank spot
  pub all : (d : Deed) → IsAct eager lines v rank spot d → Has turns (record { rank = rank; by = move.Act d })
