use Rattle.std.proofs.Common.{◌≡◌, ◌++◌}
use Rattle.nm_report.specs.Ends.{packets_of}
use Rattle.nm_world.specs.Records.{counts_to}
use Rattle.nm_world.proofs.records.push_counts.Given as goal

abbrev pub invariant-loop-to : goal.invariant-loop-to
invariant-loop-to l = (l.from ≡ l.port.rank) × (packets_of l.pairs ≡ packets_of l.fn.pairs ++ counts_to l.to l.port)
