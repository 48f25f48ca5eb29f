use Rattle.nm_script.proofs.PushLemmas.{one_more}
use Rattle.nm_script.proofs.flood.scripts.push_sends.Goals as goal

pub loop-k-preserved : goal.loop-k-preserved
loop-k-preserved c = record {
  put = one_more _ _ _ _ c.loop-k.k _ (c.send_line.ensures c.args.ranks c.loop-k.invariant.way)
      c.loop-k.invariant.put c.in_ok-push.ensures.items;
  way = c.next-way.ensures c.args.key c.loop-k.k c.loop-k.invariant.way;
}
