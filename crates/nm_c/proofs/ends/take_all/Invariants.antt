use Rattle.nm_c.specs.Ranks.{handles_in}
use Rattle.nm_c.proofs.Taken.{TakenTo}
use Rattle.nm_c.proofs.ends.take_all.Given as goal

-- those that were visited are taken, and the others are as they were
abbrev pub invariant-loop-k : goal.invariant-loop-k
invariant-loop-k l = TakenTo l.k (handles_in l.initial.ranks) (handles_in l.ranks) l.initial.handles l.handles
