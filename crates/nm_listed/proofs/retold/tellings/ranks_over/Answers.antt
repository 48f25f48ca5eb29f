-- One rank more.
use Rattle.std.proofs.Common.{◌∙◌, List, ap, sym}
use Rattle.nm_outcomes.specs.Logs.{Step}
use Rattle.nm_listed.specs.Tellings.{over_rank}
use Rattle.nm_listed.proofs.TurnLemmas.{below_next}
use Rattle.nm_listed.proofs.retold.tellings.ranks_over.Goals as goal

pub loop-i-preserved : goal.loop-i-preserved
loop-i-preserved c =
    c.in_ok-rank_over.ensures
    ∙ ap (λ (log : List Step). over_rank c.args.ranks c.args.states.now c.loop-i.i log) c.loop-i.invariant
    ∙ sym (below_next (λ i log. over_rank c.args.ranks c.args.states.now i log) c.loop-i.i c.args.log.now)
