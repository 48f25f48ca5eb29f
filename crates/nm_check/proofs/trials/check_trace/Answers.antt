use Rattle.std.proofs.Common.{◌≡◌, subst, rules}
use Rattle.nm_types.specs.Sizes.{Sizes}
use Rattle.nm_trace.specs.Traces.{IsTraceOf}
use Rattle.nm_check.specs.Trials.{sizes}
use Rattle.nm_check.proofs.trials.check_trace.Goals as goal

pub returns-in_ok-verdict-in-Ok-clause-right : goal.returns-in_ok-verdict-in-Ok-clause-right
returns-in_ok-verdict-in-Ok-clause-right c =
    let sized : c.unwrap-shape.result ≡ sizes c.args.cells c.args.eager c.args.script.now.ranks = search rules in
    let trace : IsTraceOf (sizes c.args.cells c.args.eager c.args.script.now.ranks) c.args.rest.now c.in-Ok.run' =
    subst (λ (s : Sizes). IsTraceOf s c.args.rest.now c.in-Ok.run') sized c.in-Ok.ensures.taken in
    (c.in-Ok.run', trace, c.in_ok-verdict-in-Ok.ensures.first)
