use Rattle.nm_world.proofs.players.Player.reply.Given as goal

abbrev pub ghost-take_soon : goal.ghost-take_soon
ghost-take_soon g a = g.here

abbrev pub ghost-run_while_idle : goal.ghost-run_while_idle
ghost-run_while_idle g a = record g.here { fabric = a.f.now }
