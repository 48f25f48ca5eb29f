use Rattle.nm_rows.proofs.fabric.rings.a_fifth_piece_isnt_pushed.Given as goal

abbrev pub ghosts-calls : goal.ghosts-calls
ghosts-calls g a = record { name = a.blank.name; parts = a.blank.parts }
