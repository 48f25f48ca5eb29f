use Rattle.nm_cells.proofs.boxes.fill_box.Given as goal

abbrev pub ghosts-fill : goal.ghosts-fill
ghosts-fill g a = record { peer = a.to; awaited = 0 }
