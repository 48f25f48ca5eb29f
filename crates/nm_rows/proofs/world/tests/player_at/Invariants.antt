use Rattle.nm_rows.proofs.world.tests.player_at.Given as goal

abbrev pub ghosts-make_turns : goal.ghosts-make_turns
ghosts-make_turns a = record { name = a.blank.name; parts = a.blank.parts }
