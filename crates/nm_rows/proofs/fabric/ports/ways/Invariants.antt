use Rattle.std.proofs.Common.{◌≡◌}
use Rattle.nm_cells.specs.Ports.{Owns}
use Rattle.nm_rows.proofs.fabric.ports.ways.Given as goal

abbrev pub invariant-loop-k : goal.invariant-loop-k
invariant-loop-k g l = Owns l.f l.port × (l.port.rank ≡ 0) × (l.port.hands ≡ 0)
