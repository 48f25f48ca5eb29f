-- One program more.
use Rattle.std.specs.Vec.Iter.{into_iter_items}
use Rattle.nm_programs.proofs.SoFar.{one_more}
use Rattle.nm_noted.specs.Noted.{IsFresh}
use Rattle.nm_noted.proofs.runs.begin.Goals as goal

pub loop-program-preserved : goal.loop-program-preserved
loop-program-preserved g c =
    one_more (IsFresh g.C.Keeper.calls) c.args.programs.items (into_iter_items c.loop-program.program-iterator)
    (into_iter_items c.next.new.self) c.loop-program.all.items c.add.new.list.items c.in-Some.program c.new-noted.result
    c.in-Some.ensures.steps.0 c.in_ok-add.ensures c.loop-program.invariant c.new-noted.ensures
