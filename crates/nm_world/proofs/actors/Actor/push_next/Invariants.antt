use Rattle.nm_world.proofs.actors.Actor.push_next.Given as goal

abbrev pub ghost-push_front : goal.ghost-push_front
ghost-push_front g a = g.here
