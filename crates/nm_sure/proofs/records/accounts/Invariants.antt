use Rattle.std.proofs.Common.{◌≡◌, map}
use Rattle.std.specs.List.{range_with_len}
use Rattle.nm_report.specs.Told.{told_of_rank}
use Rattle.nm_sure.specs.PlainText.{rank_told}
use Rattle.nm_sure.proofs.records.accounts.Given as goal

-- what the ranks so far told
abbrev pub invariant-loop-rank : goal.invariant-loop-rank
invariant-loop-rank l = map told_of_rank l.accounts.items ≡ map (rank_told l.plan.lines.now l.at)
    (range_with_len 0 l.rank)
