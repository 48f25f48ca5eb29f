use Rattle.std.proofs.Common.{◌≡◌, ◌+◌, ◌≤◌}
use Rattle.nm_receiving.specs.Rows.{settled_before}
use Rattle.nm_receiving.proofs.rows.let_go.Given as goal

abbrev pub invariant-loop-gone : goal.invariant-loop-gone
invariant-loop-gone l =
    (l.settled.items ≡ l.fn.settled.items)
    × (l.settled.forgotten ≡ l.fn.settled.forgotten + l._gone)
    × (l.settled.forgotten ≤ settled_before l.fn.settled.items)
