use Rattle.std.proofs.Common.{◌≡◌, List, ◌++◌, map, drop, string_bytes}
use Rattle.nm_report.specs.Told.{told_of_rank}
use Rattle.nm_persist.specs.declared.asked.Asked.{Asked}
use Rattle.nm_persist.specs.Report.{ranks_lines}
use Rattle.nm_persist.specs.Results.{AreRows}
use Rattle.nm_persist.proofs.texts.push_ranks.Given as goal

-- what is written and what is still to write are all
abbrev pub invariant-loop-rank : goal.invariant-loop-rank
invariant-loop-rank l =
    (all : List Asked) → AreRows all l.asked
    → string_bytes l.out ++ ranks_lines all l.rank (map told_of_rank (drop l.rank l.ranks))
    ≡ string_bytes l.fn.out ++ ranks_lines all 0 (map told_of_rank l.ranks)
