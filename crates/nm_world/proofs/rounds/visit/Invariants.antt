use Rattle.nm_world.proofs.rounds.visit.Given as goal

abbrev pub ghost-reply_and_move : goal.ghost-reply_and_move
ghost-reply_and_move g a = record { fabric = a.f.now; rings = a.r.now }
