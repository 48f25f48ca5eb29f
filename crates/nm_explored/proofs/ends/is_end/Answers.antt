-- One rank more is at rest.
use Rattle.std.proofs.Common.{ℕ}
use Rattle.nm_explored.specs.Successors.{spot_in}
use Rattle.nm_explored.specs.Rests.{IsAtRest}
use Rattle.nm_search.proofs.ListLemmas.{each_next}
use Rattle.nm_explored.proofs.ends.is_end.Goals as goal

pub loop-i-preserved : goal.loop-i-preserved
loop-i-preserved c =
    each_next
    (λ (i : ℕ). IsAtRest c.args.ranks c.args.view.lines.now (spot_in c.args.view.table.now c.args.view.ids.now) i)
    c.loop-i.i c.loop-i.invariant (c.is_at_rest.ensures.only c.if-not-is_at_rest.false)
