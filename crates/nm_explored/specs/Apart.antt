-- Groups of ranks that never speak to each other: the moves of one group are enough.
use Rattle.std.specs.Prelude.{◌≡◌, ℕ, ◌<◌, ◌==◌, Bool, true, false, not, Option, Some, List, get_or}
use Rattle.std.specs.List.{list_all, list_any, slice_get, slice_set}
use Rattle.nm_types.specs.declared.scripts.Command.{Command}
use Rattle.nm_types.specs.declared.scripts.Command.TheVariants as command
use Rattle.nm_types.specs.declared.scripts.Line.{Line}
use Rattle.nm_outcomes.specs.RankStates.{Spot}
use Rattle.nm_explored.specs.declared.choices.moves.Turn.{Turn}
use Rattle.nm_explored.specs.Rests.{IsAtRest}
use Rattle.nm_explored.specs.Moves.{AreMovesOf, IsTurn, moved_at}
use Rattle.nm_explored.specs.Started.{AreStarted}

-- the group of a rank
abbrev pub group_of : List ℕ → ℕ → ℕ
group_of groups i = get_or groups i 0

-- a command of a rank sends to no rank of another group
abbrev pub is_inside : List ℕ → ℕ → Command → Bool
is_inside groups i (command.Send to q tag ctx sync body) = group_of groups to == group_of groups i
is_inside groups i _ = true

-- so do all commands of the script
abbrev pub AreApart : List ℕ → List Line → Type 0
AreApart groups lines = list_all (λ line. is_inside groups line.rank line.command) lines ≡ true

-- a message of this rank came of another group
abbrev pub is_strange : List ℕ → ℕ → ℕ → Bool
is_strange groups i from = not (group_of groups from == group_of groups i)

-- what came to a rank came of its group
pub record IsInside (groups : List ℕ) (i : ℕ) (x : Spot) : Type 0 where
  pub came : list_any (λ a. is_strange groups i a.env.from) x.came ≡ false
  pub free : list_any (λ a. is_strange groups i a.env.from) x.free ≡ false
  pub pairs : list_any (λ p. is_strange groups i p.arrival.env.from) x.pairs ≡ false

-- so it is with all ranks
abbrev pub AreInside : List ℕ → List Spot → Type 0
AreInside groups s = (i : ℕ) (x : Spot) → slice_get s i ≡ Some x → IsInside groups i x

-- In these states of all ranks the moves of one group are enough: no rank sends to another group, and one of this group
-- has a move left.
pub record LetsPart (ranks : ℕ) (lines : List Line) (groups : List ℕ) (g : ℕ) (s : List Spot) : Type 0 where
  pub apart : AreApart groups lines
  pub started : AreStarted lines s
  pub inside : AreInside groups s
  pub rank : ℕ
  pub low : rank < ranks
  pub own : group_of groups rank ≡ g
  pub moves : IsAtRest ranks lines (λ k. slice_get s k) rank → ⊥

-- a rank of the group makes a move
abbrev pub Parts : ℕ → ℕ → List Line → List ℕ → ℕ → List Spot → List Spot → Type 0
Parts eager ranks lines groups g s u =
    (t : Turn) × (t.rank < ranks) × (group_of groups t.rank ≡ g)
    × (turn : IsTurn eager ranks lines (λ k. slice_get s k) t) × (u ≡ slice_set s t.rank (moved_at turn.spot t.by))

-- all moves of a group, of which one rank has one left, are among these
pub record AreMovesOfGroup (eager ranks : ℕ) (lines : List Line) (v : ℕ → Option Spot)
    (turns : List Turn) : Type 0 where
  pub groups : List ℕ
  pub apart : AreApart groups lines
  pub rank : ℕ
  pub low : rank < ranks
  pub moves : IsAtRest ranks lines v rank → ⊥
  pub all : (i : ℕ) → i < ranks → group_of groups i ≡ group_of groups rank → AreMovesOf eager ranks lines v i turns
