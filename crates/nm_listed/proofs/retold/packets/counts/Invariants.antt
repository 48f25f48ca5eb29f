-- The ranks so far.
use Rattle.std.proofs.Common.{◌≡◌, length, take}
use Rattle.std.specs.List.{range_with_len}
use Rattle.nm_history.specs.Quiescence.{packets_by_rank}
use Rattle.nm_report.specs.Ends.{ends_of, packets_of}
use Rattle.nm_listed.proofs.retold.packets.counts.Given as goal

abbrev pub invariant-loop-i : goal.invariant-loop-i
invariant-loop-i l =
    packets_of l.pairs
    ≡ packets_by_rank l.lines (range_with_len 0 (length (ends_of l.ranks))) 0 (take l.i (ends_of l.ranks))
