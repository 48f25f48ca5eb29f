use Rattle.nm_world.proofs.players.Player.reply_and_move.Given as goal

abbrev pub ghost-reply : goal.ghost-reply
ghost-reply g a = g.here

abbrev pub ghost-move_all : goal.ghost-move_all
ghost-move_all g a = g.here
