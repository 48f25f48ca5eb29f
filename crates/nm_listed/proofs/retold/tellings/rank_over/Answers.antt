-- One rank more.
use Rattle.std.proofs.Common.{◌∙◌, List, ap, sym}
use Rattle.nm_outcomes.specs.Logs.{Step}
use Rattle.nm_listed.specs.Tellings.{over_pair}
use Rattle.nm_listed.proofs.TurnLemmas.{below_next}
use Rattle.nm_listed.proofs.retold.tellings.rank_over.Goals as goal

pub loop-j-preserved : goal.loop-j-preserved
loop-j-preserved c =
    c.in_ok-pair_over.ensures
    ∙ ap (λ (log : List Step). over_pair c.args.states.now c.args.i c.loop-j.j log) c.loop-j.invariant
    ∙ sym (below_next (λ j log. over_pair c.args.states.now c.args.i j log) c.loop-j.j c.args.log.now)
