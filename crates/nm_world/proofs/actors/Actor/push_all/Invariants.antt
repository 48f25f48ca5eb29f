use Rattle.std.proofs.Common.{◌≤◌, ◌+◌, ◌*◌}
use Rattle.nm_world.proofs.Loops.{HasLooped}
use Rattle.nm_world.proofs.actors.Actor.push_all.Given as goal

abbrev pub ghost-push_next : goal.ghost-push_next
ghost-push_next g a = g.here

abbrev pub invariant-loop-pushed : goal.invariant-loop-pushed
invariant-loop-pushed g l = record {
  looped : HasLooped (record g.here { rings = l.r }) l.pushed l.initial.self l.self;
  bound : l.steps ≤ l.initial.steps + l.pushed * 3;
}
