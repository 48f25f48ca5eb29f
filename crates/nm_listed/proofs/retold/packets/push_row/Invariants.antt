-- The counts so far.
use Rattle.std.proofs.Common.{◌≡◌, ◌++◌}
use Rattle.std.specs.List.{range_with_len}
use Rattle.nm_history.specs.Quiescence.{packets_from}
use Rattle.nm_report.specs.Ends.{packets_of}
use Rattle.nm_listed.proofs.retold.packets.push_row.Given as goal

abbrev pub invariant-loop-to : goal.invariant-loop-to
invariant-loop-to l =
    packets_of l.pairs ≡ packets_of l.fn.pairs ++ packets_from l.lines (range_with_len 0 l.to) l.from l.events
