-- One rank more.
use Rattle.nm_waits.proofs.WaitLemmas.{waits_take}
use Rattle.nm_waits.proofs.waits.waits_of.Goals as goal

pub loop-i-preserved : goal.loop-i-preserved
loop-i-preserved c =
    waits_take c.args.lines.now c.args.states.now c.loop-i.i c.index-states-i.result c.loop-i.waits.items
    c.push_wait.new.waits.items c.wait_of.result c.loop-i-test.true c.index-states-i.is c.loop-i.invariant
    c.wait_of.ensures c.in_ok-push_wait.ensures
