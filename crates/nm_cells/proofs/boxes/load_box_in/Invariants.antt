use Rattle.nm_cells.specs.Ports.{taken_by}
use Rattle.nm_cells.proofs.boxes.load_box_in.Given as goal

abbrev pub ghosts-look_in : goal.ghosts-look_in
ghosts-look_in g a = record { peer = a.sender; awaited = taken_by a.port.now a.sender }
