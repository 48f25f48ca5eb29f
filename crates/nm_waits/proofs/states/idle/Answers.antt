-- One rank more.
use Rattle.std.proofs.Common.{arith}
use Rattle.nm_search.proofs.ListLemmas.{replicate_more}
use Rattle.nm_waits.proofs.states.idle.Goals as goal

pub loop-rank-preserved : goal.loop-rank-preserved
loop-rank-preserved c = grind (arith, replicate_more)
