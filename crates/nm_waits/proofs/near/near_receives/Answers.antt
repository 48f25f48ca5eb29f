-- One deed more.
use Rattle.nm_waits.specs.Near.{near_receive}
use Rattle.nm_waits.proofs.NearLemmas.{given_more}
use Rattle.nm_waits.proofs.near.near_receives.Goals as goal

pub loop-deed-preserved : goal.loop-deed-preserved
loop-deed-preserved c =
    given_more (near_receive c.args.rank.now c.args.a.now) c.deeds-deed-items.result.now c.args.rank.now.deeds
    c.loop-deed.deed-index _ c.loop-deed.near.items c.push_receive.new.near.items c.near_receive.result
    c.deeds-deed-items.ensures c.loop-deed-test.true c.loop-deed.invariant c.near_receive.ensures
    c.in_ok-push_receive.ensures
