-- A run as a path of moves: from the first places of the ranks, step by step.
use Rattle.std.specs.Prelude.{◌≡◌, ℕ, ◌<◌, ◌==◌, false, if◌then◌else◌, None, Some, List, [], ◌∷◌}
use Rattle.nm_types.specs.declared.scripts.Command.{Command}
use Rattle.nm_types.specs.declared.scripts.Command.TheVariants as command
use Rattle.nm_types.specs.declared.scripts.Line.{Line}
use Rattle.nm_types.specs.Commands.{command_at, commands_of}
use Rattle.nm_types.specs.Sizes.{Sizes}
use Rattle.nm_history.specs.Quiescence.{Ended, Packets, history_of}
use Rattle.nm_history.specs.Run.{IsRunOf}
use Rattle.nm_outcomes.specs.Due.{AreAtLines}
use Rattle.nm_outcomes.specs.Logs.{IsLogOf, Step}
use Rattle.nm_outcomes.specs.Moves.{MayMove}
use Rattle.nm_outcomes.specs.Places.{IsPlaceOf, RankPoint, after}

-- a rank of which nothing has happened
abbrev pub first_place : RankPoint
first_place =
    record {
      told = [];
      done = 0;
      begun = [];
      named = λ q. None;
      requests = λ line. None;
      handled = λ m. None;
      claims = λ line. None;
      receives = [];
      messages = [];
      pairs = λ number. None;
      off = λ number. false;
      known = λ from n. None;
      arrived = λ from n. false;
      taken = λ from n. false;
      claimed = λ from n. false;
      withdrawn = λ from n. false;
      sent = λ to. [];
      lines = λ to. [];
      unasked = λ to n. false;
      recalled = λ to n. false;
      came = λ from. 0;
    }

-- the places after a step
abbrev pub moved : List Line → (ℕ → RankPoint) → Step → ℕ → RankPoint
moved lines w step i =
    if step.rank == i then after i (commands_of i lines) (w i) step.event.what else w i

-- the places after some steps
abbrev pub moved_by : List Line → (ℕ → RankPoint) → List Step → ℕ → RankPoint
moved_by lines w [] = w
moved_by lines w (step ∷ steps) = moved_by lines (moved lines w step) steps

-- each step is a move of the places that the steps before it led to
abbrev pub AreMoves : Sizes → List Line → (ℕ → RankPoint) → List Step → Type 0
AreMoves shape lines w [] = Unit {0}
AreMoves shape lines w (step ∷ steps) =
    MayMove shape lines w step.rank step.event.what × AreMoves shape lines (moved lines w step) steps

-- a command sends to a rank of the run, if it sends
abbrev pub IsAddressed : ℕ → Command → Type 0
IsAddressed ranks (command.Send to q tag ctx sync body) = to < ranks
IsAddressed ranks _ = Unit {0}

-- the commands of each rank stand at their lines, and send to ranks of the run
pub record AreCommands (ranks : ℕ) (lines : List Line) : Type 0 where
  pub stand : (i : ℕ) → AreAtLines (commands_of i lines)
  pub addressed :
      (i line : ℕ) (c : Command) → command_at (commands_of i lines) line ≡ Some c → IsAddressed ranks c

-- the log of a run is a path of moves, whose end is where its histories are
pub record IsPathOf (shape : Sizes) (lines : List Line) (ranks : List Ended) (log : List Step) : Type 0 where
  pub log_of : IsLogOf shape lines ranks log
  pub moves : AreMoves shape lines (λ i. first_place) log
  pub ends :
      (i : ℕ) →
      IsPlaceOf i (commands_of i lines) (history_of ranks i) (moved_by lines (λ i. first_place) log i)

-- each run of a script is such a path
abbrev pub RunsArePaths : Type 0
RunsArePaths =
    (shape : Sizes) (lines : List Line) (ranks : List Ended) (packets : List Packets) →
    AreCommands shape.ranks lines → IsRunOf shape lines ranks packets →
    (log : List Step) × IsPathOf shape lines ranks log
