use Rattle.nm_rows.proofs.fabric.ports.row.Given as goal

abbrev pub ghosts-ways : goal.ghosts-ways
ghosts-ways a = record { name = a.blank.name; parts = a.blank.parts }

abbrev pub ghosts-take_all : goal.ghosts-take_all
ghosts-take_all a = record { name = a.blank.name; parts = a.blank.parts }
