use Rattle.std.proofs.Common.{◌≡◌, take}
use Rattle.nm_report.specs.Ends.{packets_of}
use Rattle.nm_check.proofs.rest.counts.first_miscount.Given as goal

-- the counts so far are due
abbrev pub invariant-loop-k : goal.invariant-loop-k
invariant-loop-k l = take l.k (packets_of l.pairs) ≡ take l.k (packets_of l.due)
