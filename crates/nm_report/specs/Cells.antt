-- The account of the cells.
use Rattle.std.specs.Prelude.{◌≡◌, ◌*◌}
use Rattle.nm_types.specs.declared.answers.Account.{Account}
use Rattle.nm_types.specs.Sizes.{Sizes}
use Rattle.nm_report.specs.declared.records.RunRecord.{RunRecord}

-- the account has all cells of the run, and each of them is on its owner's free queue
pub record AllCellsFree (run : RunRecord) : Type 0 where
  pub all : run.cells.total ≡ run.shape.ranks * run.shape.cells
  pub home : run.cells.home ≡ run.cells.total

-- the account of a run of these sizes, all of whose cells are home
abbrev pub all_home : Sizes → Account
all_home shape = record { total = shape.ranks * shape.cells; home = shape.ranks * shape.cells }
