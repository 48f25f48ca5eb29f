use Rattle.nm_cells.proofs.boxes.load_box_out.Given as goal

abbrev pub ghosts-look_out : goal.ghosts-look_out
ghosts-look_out g a = record { peer = a.to; awaited = 0 }
