use Rattle.std.proofs.Common.{take}
use Rattle.nm_history.specs.RankRun.{Always, NumberAt}
use Rattle.nm_check_rank.specs.Counted.{AreCounted}
use Rattle.nm_check_rank.proofs.numbers.first_number.Given as goal

-- what came so far is counted and rightly numbered
abbrev pub invariant-loop-k : goal.invariant-loop-k
invariant-loop-k l =
    AreCounted (take l.k l.events) l.counts × Always (NumberAt l.ranks) (take l.k l.events)
