use Rattle.std.proofs.Common.{take}
use Rattle.nm_check_rank.specs.Counted.{AreCounted}
use Rattle.nm_check_rank.proofs.numbers.counted.Given as goal

-- what came so far is counted
abbrev pub invariant-loop-e : goal.invariant-loop-e
invariant-loop-e l = AreCounted (take l.e-index l.events) l.counts
