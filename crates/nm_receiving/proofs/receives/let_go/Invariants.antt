use Rattle.std.proofs.Common.{◌≡◌, ◌+◌, ◌≤◌, ◌^◌, min}
use Rattle.nm_receiving.specs.Receives.{first_live}
use Rattle.nm_receiving.proofs.receives.let_go.Given as goal

abbrev pub invariant-loop-gone : goal.invariant-loop-gone
invariant-loop-gone l =
    (l.kept.items ≡ l.fn.kept.items)
    × (l.kept.forgotten ≡ l.fn.kept.forgotten + l._gone)
    × (l.kept.forgotten ≤ min (first_live l.fn.kept.items) (2 ^ 62))
    × (l.fn.kept.places ≤ l.kept.places)
