use Rattle.uses.proofs.queue.crossing.cross.Given as goal

abbrev pub ghosts-take_turns : goal.ghosts-take_turns
ghosts-take_turns a = record { name = a.blank.name; parts = a.blank.parts }
