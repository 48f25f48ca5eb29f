use Rattle.nm_handle.proofs.steps.turn.Given as goal

abbrev pub ghosts-turn_on : goal.ghosts-turn_on
ghosts-turn_on a = record { name = a.blank.name; parts = a.blank.parts }
