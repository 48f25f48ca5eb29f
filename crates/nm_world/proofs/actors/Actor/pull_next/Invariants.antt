use Rattle.nm_world.proofs.actors.Actor.pull_next.Given as goal

abbrev pub ghost-pull_due : goal.ghost-pull_due
ghost-pull_due g a = g.here
