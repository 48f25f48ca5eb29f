use Rattle.std.proofs.Common.{ap}
use Rattle.nm_types.specs.declared.scripts.Command.TheVariants.{Wait}
use Rattle.nm_plans.specs.Expansion.{line_at, wait_of}
use Rattle.nm_plans.proofs.PartLemmas.{part_line_more}
use Rattle.nm_plans.proofs.requests.expansions.push_waits.Goals as goal

pub loop-k-preserved : goal.loop-k-preserved
loop-k-preserved c =
    part_line_more (line_at c.args.rank) (wait_of c.args.p) c.args.out.now.items c.loop-k.out.items _ c.loop-k.k
    (line_at c.args.rank (Wait c.name_of-q.result))
    (ap (λ q. line_at c.args.rank (Wait q)) c.name_of-q.ensures) c.loop-k.invariant
    c.in_ok-push.ensures.items
