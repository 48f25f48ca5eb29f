-- The first ranks are at rest.
use Rattle.std.proofs.Common.{ℕ, ◌<◌}
use Rattle.nm_explored.specs.Successors.{spot_in}
use Rattle.nm_explored.specs.Rests.{IsAtRest}
use Rattle.nm_explored.proofs.ends.is_end.Given as goal

abbrev pub invariant-loop-i : goal.invariant-loop-i
invariant-loop-i l =
    (i : ℕ) → i < l.i → IsAtRest l.ranks l.view.lines.now (spot_in l.view.table.now l.view.ids.now) i
