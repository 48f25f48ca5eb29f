use Rattle.std.proofs.Common.{◌≡◌, ℕ, ◌-◌, [], Some, length}
use Rattle.std.specs.Prelude.{slice_get}
use Rattle.nm_chain.specs.Spoken.{view}
use Rattle.nm_copyring.specs.declared.port.RingPort.{RingPort}
use Rattle.nm_copyring.specs.Rule.{newcomers}
use Rattle.nm_copyring.specs.Ports.{IsNew}
use Rattle.nm_copyring.proofs.build.ports_of.Given as goal

abbrev pub invariant-loop-rank : goal.invariant-loop-rank
invariant-loop-rank l = (l.rest.table_id ≡ l.r.board.shared.table_id)
    × (l.rest.me ≡ (view (newcomers l.r.ranks l.rank (l.r.ranks - l.rank)), []))
    × (length l.ports.items ≡ l.rank)
    × ((k : ℕ) (p : RingPort) → slice_get l.ports.items k ≡ Some p → IsNew l.r p k)
