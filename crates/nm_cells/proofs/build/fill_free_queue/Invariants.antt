use Rattle.std.proofs.Common.{ℕ, ◌<◌, ◌≡◌, ◌⊎◌}
use Rattle.nm_chain.specs.declared.table.table.Hand.TheVariants.{Away}
use Rattle.nm_chain.specs.Rule.{hand}
use Rattle.nm_cells.specs.Ports.{knows, cells_of, IsFresh, IsLoose}
use Rattle.nm_cells.proofs.build.fill_free_queue.Given as goal

abbrev pub invariant-loop-cell : goal.invariant-loop-cell
invariant-loop-cell g l = IsFresh l.f l.port l.fn.port.rank
    × ((c : ℕ) → c < cells_of l.f → (hand (knows l.port) c ≡ Away) ⊎ IsLoose l.port c)

abbrev pub decreases-loop-cell : goal.decreases-loop-cell
decreases-loop-cell g l = l.port.hands

abbrev pub ghosts-put_home : goal.ghosts-put_home
ghosts-put_home g a = record { name = a.blank.name; parts = a.blank.parts }
