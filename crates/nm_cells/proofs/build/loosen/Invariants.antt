use Rattle.std.proofs.Common.{◌≡◌, ℕ, ◌+◌, ◌*◌, ◌/◌, ◌<◌, ◌≤◌}
use Rattle.nm_chain.specs.declared.table.table.Hand.TheVariants.{Loose}
use Rattle.nm_chain.specs.Rule.{hand}
use Rattle.nm_cells.specs.Ports.{knows, cells_of, IsFresh}
use Rattle.nm_cells.proofs.build.loosen.Given as goal

abbrev pub invariant-loop-cell : goal.invariant-loop-cell
invariant-loop-cell g l = let r = l.fn.port.rank in IsFresh l.f l.port r × (l.port.hands ≡ l.f.each)
    × (l.port.loose.first ≡ r * l.f.each) × (l.port.loose.end ≡ r * l.f.each + l._cell)
    × ((c : ℕ) → c < cells_of l.f → c / l.f.each ≡ r → l.port.loose.end ≤ c
    → hand (knows l.port) c ≡ Loose)
