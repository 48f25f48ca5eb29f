use Rattle.std.proofs.Common.{◌≡◌, ℕ, ◌-◌, [], Some, length}
use Rattle.std.specs.Prelude.{slice_get}
use Rattle.nm_chain.specs.Spoken.{view}
use Rattle.nm_cells.specs.declared.port.Port.{Port}
use Rattle.nm_chain.specs.Rule.{beginners}
use Rattle.nm_cells.specs.Ports.{Begins}
use Rattle.nm_cells.proofs.build.ports_of.Given as goal

abbrev pub invariant-loop-rank : goal.invariant-loop-rank
invariant-loop-rank g l = (l.rest.table_id ≡ l.f.board.shared.table_id)
    × (l.rest.me ≡ (view (beginners l.f.ranks l.f.each l.rank (l.f.ranks - l.rank)), []))
    × (length l.ports.items ≡ l.rank)
    × ((k : ℕ) (p : Port _) → slice_get l.ports.items k ≡ Some p → Begins l.loose l.f p k)
