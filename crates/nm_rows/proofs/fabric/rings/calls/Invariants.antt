use Rattle.std.proofs.Common.{◌≡◌}
use Rattle.nm_copyring.specs.Ports.{Owns}
use Rattle.nm_rows.proofs.fabric.rings.calls.Given as goal

abbrev pub invariant-loop-k : goal.invariant-loop-k
invariant-loop-k g l = Owns l.r l.a × (l.a.rank ≡ l.fn.a.rank)

abbrev pub invariant-loop-k-2 : goal.invariant-loop-k-2
invariant-loop-k-2 g l = Owns l.r l.b × (l.b.rank ≡ l.fn.b.rank)
