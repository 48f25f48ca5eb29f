-- When a record is of a run of a script.
use Rattle.std.specs.Prelude.{◌≡◌, List}
use Rattle.nm_types.specs.declared.scripts.Line.{Line}
use Rattle.nm_types.specs.Sizes.{Sizes}
use Rattle.nm_history.specs.Run.{IsRunOf}
use Rattle.nm_report.specs.declared.records.RunRecord.{RunRecord}
use Rattle.nm_report.specs.Cells.{AllCellsFree}
use Rattle.nm_report.specs.Ends.{are_done, ends_of, packets_of}

-- The record is of one run of a script in these sizes: each rank ran its own commands, each took from
-- each sender exactly the messages that it sent, and nothing is under way. All cells are home, and the
-- run is done exactly where every rank is at its end.
pub record IsRunIn (shape : Sizes) (lines : List Line) (run : RunRecord) : Type 0 where
  pub shaped : run.shape ≡ shape
  pub lawful : IsRunOf shape lines (ends_of run.ranks) (packets_of run.pairs)
  pub home : AllCellsFree run
  pub ended : run.done ≡ are_done (ends_of run.ranks)

-- two records that differ at most in the room of their histories
pub record SameRun (a b : RunRecord) : Type 0 where
  pub shape : a.shape ≡ b.shape
  pub ranks : ends_of a.ranks ≡ ends_of b.ranks
  pub pairs : a.pairs ≡ b.pairs
  pub cells : a.cells ≡ b.cells
  pub done : a.done ≡ b.done
