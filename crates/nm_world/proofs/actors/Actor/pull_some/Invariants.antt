use Rattle.std.proofs.Common.{◌≤◌, ◌+◌, ◌*◌}
use Rattle.nm_world.proofs.Loops.{HasLooped}
use Rattle.nm_world.proofs.actors.Actor.pull_some.Given as goal

abbrev pub ghost-pull_next : goal.ghost-pull_next
ghost-pull_next g a = g.here

abbrev pub invariant-loop-pulled : goal.invariant-loop-pulled
invariant-loop-pulled g l = record {
  looped : HasLooped (record g.here { rings = l.r }) l.pulled l.initial.self l.self;
  bound : l.steps ≤ l.initial.steps + l.pulled * 3;
}
