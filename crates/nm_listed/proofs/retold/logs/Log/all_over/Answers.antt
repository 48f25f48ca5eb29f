-- One message more.
use Rattle.std.proofs.Common.{◌∙◌, List, ap, sym}
use Rattle.nm_outcomes.specs.Logs.{Step}
use Rattle.nm_listed.specs.Tellings.{over}
use Rattle.nm_listed.proofs.TurnLemmas.{below_next}
use Rattle.nm_listed.proofs.retold.logs.Log.all_over.Goals as goal

pub loop-n-preserved : goal.loop-n-preserved
loop-n-preserved c =
    c.in_ok-over.ensures
    ∙ ap (λ (log : List Step). over c.args.rank.now c.args.other.now c.args.i c.args.j c.loop-n.n log)
    c.loop-n.invariant
    ∙ sym (below_next (λ n log. over c.args.rank.now c.args.other.now c.args.i c.args.j n log) c.loop-n.n
    c.args.self.now)
