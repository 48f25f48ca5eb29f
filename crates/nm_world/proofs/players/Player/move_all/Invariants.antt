use Rattle.nm_world.proofs.players.Player.move_all.Given as goal

abbrev pub ghost-send_all : goal.ghost-send_all
ghost-send_all g a = g.here

abbrev pub ghost-push_all : goal.ghost-push_all
ghost-push_all g a = g.here

abbrev pub ghost-take_all : goal.ghost-take_all
ghost-take_all g a = g.here

abbrev pub ghost-pull_all : goal.ghost-pull_all
ghost-pull_all g a = g.here

abbrev pub ghost-run_all : goal.ghost-run_all
ghost-run_all g a = g.here
