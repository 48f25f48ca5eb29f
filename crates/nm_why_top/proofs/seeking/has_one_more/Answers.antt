-- One rank more.
use Rattle.nm_explored.specs.Successors.{spot_in}
use Rattle.nm_why_top.proofs.SeekLemmas.{hung_more}
use Rattle.nm_why_top.proofs.seeking.has_one_more.Goals as goal

pub loop-i-preserved : goal.loop-i-preserved
loop-i-preserved c =
    hung_more c.args.view.lines.now (spot_in c.args.view.table.now c.args.view.ids.now) c.loop-i.i c.loop-i.more
    c.has_more_too-more.result c.loop-i.invariant c.has_more_too-more.ensures
