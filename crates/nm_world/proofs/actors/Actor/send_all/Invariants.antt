use Rattle.std.proofs.Common.{◌≤◌, ◌+◌, ◌*◌}
use Rattle.nm_world.proofs.Loops.{HasLooped}
use Rattle.nm_world.proofs.actors.Actor.send_all.Given as goal

abbrev pub ghost-send_next : goal.ghost-send_next
ghost-send_next g a = g.here

abbrev pub invariant-loop-sent : goal.invariant-loop-sent
invariant-loop-sent g l = record {
  looped : HasLooped (record g.here { fabric = l.f }) l.sent l.initial.self l.self;
  bound : l.steps ≤ l.initial.steps + l.sent * 9;
}
