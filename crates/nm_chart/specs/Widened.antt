-- Why one shape serves for every trace: a trace tells neither cells nor eager limit, and a rank of which it
-- says nothing takes no line of it.
use Rattle.std.specs.Prelude.{◌-◌, [], ◌++◌, None, length, replicate}
use Rattle.nm_report.specs.declared.accounts.RankAccount.{RankAccount}
use Rattle.nm_report.specs.declared.records.RunRecord.{RunRecord}
use Rattle.nm_chart.specs.Endings.{widest}

-- a rank of which nothing is said
abbrev pub silent : RankAccount
silent = record { history = record { events = []; spare = 0 }; at = 0; waits = None }

-- the record, with silent ranks behind its own up to 64
abbrev pub widened : RunRecord → RunRecord
widened run =
    record {
      shape = widest;
      ranks = run.ranks ++ replicate (64 - length run.ranks) silent;
      pairs = run.pairs;
      cells = run.cells;
      done = run.done;
    }
