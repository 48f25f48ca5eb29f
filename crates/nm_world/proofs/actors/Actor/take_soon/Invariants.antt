use Rattle.std.proofs.Common.{false}
use Rattle.nm_world.specs.Idle.{Moves}
use Rattle.nm_world.proofs.actors.Actor.take_soon.Given as goal

abbrev pub ghost-take_next : goal.ghost-take_next
ghost-take_next g a = g.here

abbrev pub invariant-loop-poll : goal.invariant-loop-poll
invariant-loop-poll g l = Moves (record g.here { fabric = l.f }) false l.initial.self l.self
