use Rattle.std.proofs.Common.{◌≡◌, length}
use Rattle.nm_report.specs.Ends.{ends_of}
use Rattle.nm_check.specs.Verdicts.{RunsItsOwn}
use Rattle.nm_check.proofs.ItemLemmas.{EachItem}
use Rattle.nm_check.proofs.RankLemmas.{UpTo}
use Rattle.nm_check.proofs.TableLemmas.{TabledAt}
use Rattle.nm_check.proofs.ranking.judge_ranks.Given as goal

-- the ranks so far run their own commands, and these are their tables
abbrev pub invariant-loop-i : goal.invariant-loop-i
invariant-loop-i l =
    (length l.tables.items ≡ l.i) × UpTo (RunsItsOwn l.shape l.lines) (ends_of l.ranks) l.i
    × EachItem (TabledAt l.lines (ends_of l.ranks)) l.tables.items
