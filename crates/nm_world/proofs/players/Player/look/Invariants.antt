use Rattle.nm_world.proofs.players.Player.look.Given as goal

abbrev pub ghost-take_next : goal.ghost-take_next
ghost-take_next g a = g.here
