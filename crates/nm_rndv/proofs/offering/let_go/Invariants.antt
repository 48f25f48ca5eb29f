use Rattle.std.proofs.Common.{◌≡◌, ◌+◌, ◌≤◌}
use Rattle.std.specs.List.{position_or_len}
use Rattle.nm_rndv.specs.Offers.{leaves}
use Rattle.nm_rndv.proofs.offering.let_go.Given as goal

abbrev pub invariant-loop-gone : goal.invariant-loop-gone
invariant-loop-gone l =
    (l.order.items ≡ l.fn.order.items)
    × (l.order.forgotten ≡ l.fn.order.forgotten + l._gone)
    × (l.order.forgotten ≤ position_or_len (leaves l.destinations) l.fn.order.items)
    × (l.fn.order.places ≤ l.order.places)
