-- A run as a script and its record by the script's lines.
use Rattle.std.specs.Prelude.{◌≡◌, ℕ, IfSome, List, length, map}
use Rattle.nm_types.specs.declared.scripts.Command.{Command}
use Rattle.nm_types.specs.declared.scripts.Line.{Line}
use Rattle.nm_types.specs.Commands.{commands_of}
use Rattle.nm_history.specs.Quiescence.{EachRank, Ended}
use Rattle.nm_history.specs.Run.{IsRunBy}
use Rattle.nm_report.specs.declared.records.RunRecord.{RunRecord}
use Rattle.nm_process.specs.Playing.{all_numbered}
use Rattle.nm_report.specs.Cells.{AllCellsFree}
use Rattle.nm_report.specs.Ends.{are_done, ends_of, packets_of}
use Rattle.nm_transcript.specs.Orders.{AreAll, calls_of}
use Rattle.nm_transcript.specs.Renumbered.{AreOf, IsOneOf, number_in, renumbered_ends}

-- the numbers of the lines of a rank's commands
abbrev pub numbers_of : List Line → ℕ → List ℕ
numbers_of lines rank = map (λ c. c.line) (commands_of rank lines)

-- all lines of a rank's end are those of n commands
pub record IsEndOf (n : ℕ) (rank : Ended) : Type 0 where
  pub events : AreOf n rank.events
  pub waits : IfSome rank.waits (IsOneOf n)

-- so it is with each rank and the commands that it gave
abbrev pub AreEndsOf : List (List Command) → List Ended → Type 0
AreEndsOf given ranks = EachRank (λ i rank. IsEndOf (length (calls_of given i)) rank) ranks

-- The record is of a lawful run of what each rank gave, the k-th command, from 0, with line k + 2.
pub record IsRecordOf (given : List (List Command)) (run : RunRecord) : Type 0 where
  pub many : length given ≡ run.shape.ranks
  pub ran :
      IsRunBy run.shape (λ i. all_numbered 2 (calls_of given i)) (ends_of run.ranks) (packets_of run.pairs)
  pub home : AllCellsFree run
  pub done : run.done ≡ are_done (ends_of run.ranks)

-- The lines have the commands that each rank gave, in its order, and the later record is the earlier one by the
-- numbers of these lines.
pub record IsTranscript (given : List (List Command)) (run : RunRecord) (lines : List Line) (later : RunRecord)
    : Type 0 where
  pub commands : AreAll lines given
  pub shape : later.shape ≡ run.shape
  pub ranks : ends_of later.ranks ≡ renumbered_ends (λ i. number_in (numbers_of lines i)) 0 (ends_of run.ranks)
  pub pairs : later.pairs ≡ run.pairs
  pub cells : later.cells ≡ run.cells
  pub done : later.done ≡ run.done
