-- Each part of what is said.
use Rattle.std.proofs.Common.{List, ap, arith, length}
use Rattle.nm_outcomes.specs.RankStates.{Spot}
use Rattle.nm_why_top.proofs.FateLemmas.{stuck_count}
use Rattle.nm_why_top.proofs.asking.explain.Goals as goal

pub waits_of-requires-clause-few : goal.waits_of-requires-clause-few
waits_of-requires-clause-few c =
    let count = stuck_count c.args.shape c.args.script.now.lines c.args.states.items c.requires.stuck in
    let same = ap (λ (states : List Spot). length states) c.as_slice.ensures.value in
    let limits = c.args.script.now.limits in
    omega (arith, count, same, limits.few_ranks, c.requires.equal)
