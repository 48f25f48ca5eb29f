use Rattle.nm_world.proofs.rounds.sweep.Given as goal

abbrev pub ghosts-sweep_on : goal.ghosts-sweep_on
ghosts-sweep_on g a = record { name = a.blank.name; parts = a.blank.parts }
