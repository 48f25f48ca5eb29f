use Rattle.std.proofs.Common.{◌<◌, ◌≤◌, ◌+◌, ◌*◌}
use Rattle.nm_world.specs.Looks.{Polled}
use Rattle.nm_world.proofs.Loops.{HasLooped}
use Rattle.nm_world.proofs.actors.Actor.take_all.Given as goal

abbrev pub ghost-take_next : goal.ghost-take_next
ghost-take_next g a = g.here

abbrev pub invariant-loop-took : goal.invariant-loop-took
invariant-loop-took g l = record {
  looped : HasLooped (record g.here { fabric = l.f }) l.took l.initial.self l.self;
  polled : 0 < l.took →
      Polled l.initial.self.process.rank.sizes.ranks 1 l.initial.self.port l.self.port;
  bound : l.steps ≤ l.initial.steps + l.took * (l.f.ranks + 10);
}
