-- One rank more.
use Rattle.nm_explored.specs.Successors.{spot_in}
use Rattle.nm_hangs.proofs.HuntLemmas.{done_more}
use Rattle.nm_hangs.proofs.hunts.are_done.Goals as goal

pub loop-i-preserved : goal.loop-i-preserved
loop-i-preserved c =
    done_more c.args.view.lines.now (spot_in c.args.view.table.now c.args.view.ids.now) c.loop-i.i c.loop-i.done
    c.is_done_too-done.result c.loop-i.invariant c.is_done_too-done.ensures
