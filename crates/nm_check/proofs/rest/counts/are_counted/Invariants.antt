use Rattle.std.proofs.Common.{◌≡◌, ◌++◌, List, length, take}
use Rattle.std.specs.List.{range_with_len}
use Rattle.nm_types.specs.declared.scripts.Line.{Line}
use Rattle.nm_history.specs.Quiescence.{packets_by_rank}
use Rattle.nm_report.specs.Ends.{ends_of, packets_of}
use Rattle.nm_check.proofs.rest.counts.are_counted.Given as goal

-- the counts of the ranks so far come first
abbrev pub invariant-loop-i : goal.invariant-loop-i
invariant-loop-i l =
    (lines : List Line) →
    packets_of l.pairs ≡ packets_by_rank lines (range_with_len 0 (length (ends_of l.ranks))) 0
    (take l.i (ends_of l.ranks)) ++ packets_of l.left
