use Rattle.std.proofs.Common.{refl}
use Rattle.nm_plans.proofs.PartLemmas.{part_line_more}
use Rattle.nm_plans.proofs.requests.expansions.push_starts.Goals as goal

pub loop-k-preserved : goal.loop-k-preserved
loop-k-preserved c =
    part_line_more _ _ _ _ _ c.loop-k.k _ (rw c.in_ok-command.ensures refl) c.loop-k.invariant
    c.in_ok-push.ensures.items
