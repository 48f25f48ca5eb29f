-- One rank more.
use Rattle.nm_transcript.proofs.OrderLemmas.{one_less}
use Rattle.nm_transcript.proofs.orders.first.Goals as goal

pub loop-rank-preserved : goal.loop-rank-preserved
loop-rank-preserved c = record {
  some = c.better-found.ensures.some;
  none = λ is rank low.
      one_less c.args.rest.now c.loop-rank.rank (c.loop-rank.invariant.none (c.better-found.ensures.none is).0)
      (c.better-found.ensures.none is).1 rank low;
}
