use Rattle.std.proofs.Common.{take}
use Rattle.std.specs.List.{AllByRecursion}
use Rattle.nm_trace.specs.Traces.{PairIn}
use Rattle.nm_breaks.proofs.written.ranges.pairs_fit.Given as goal

-- the counts so far are within their types
abbrev pub invariant-loop-pair : goal.invariant-loop-pair
invariant-loop-pair l = AllByRecursion PairIn (take l.pair-index l.pairs)
