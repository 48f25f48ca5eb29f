use Rattle.nm_cells.proofs.boxes.empty_box.Given as goal

abbrev pub ghosts-empty : goal.ghosts-empty
ghosts-empty g a = record { peer = a.sender; awaited = 0 }
