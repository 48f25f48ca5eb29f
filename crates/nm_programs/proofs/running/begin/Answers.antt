-- One program more.
use Rattle.std.specs.Vec.Iter.{into_iter_items}
use Rattle.nm_programs.specs.Turns.{BeginsWith}
use Rattle.nm_programs.proofs.SoFar.{one_more}
use Rattle.nm_programs.proofs.running.begin.Goals as goal

pub loop-program-preserved : goal.loop-program-preserved
loop-program-preserved g c =
    let begins = c.in_ok-source.ensures.begins in
    one_more (BeginsWith c.args.ranks) c.args.programs.items (into_iter_items c.loop-program.program-iterator)
    (into_iter_items c.next.new.self) c.loop-program.sources.items c.add.new.list.items c.in-Some.program
    c.in_ok-source.source c.in-Some.ensures.steps.0 c.in_ok-add.ensures c.loop-program.invariant (record {
      start = begins.3;
      at = begins.0;
      ranks = begins.1;
      told = begins.2;
      works = begins.4;
    })
