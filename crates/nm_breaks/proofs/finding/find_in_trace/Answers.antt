use Rattle.std.proofs.Common.{◌≡◌, ◌<◌, ◌^◌, refl, ap, subst, arith, rules}
use Rattle.nm_types.specs.Sizes.{Sizes}
use Rattle.nm_trace.specs.Traces.{IsTraceOf}
use Rattle.nm_check.specs.Trials.{sizes}
use Rattle.nm_breaks.specs.Judgements.{IsJudgement}
use Rattle.nm_breaks.specs.Stops.{lines_in}
use Rattle.nm_breaks.proofs.HeldLemmas.{all_stand}
use Rattle.nm_breaks.proofs.LastLemmas.{few_lines}
use Rattle.nm_breaks.proofs.finding.find_in_trace.Goals as goal

pub judged-requires-clause-short : goal.judged-requires-clause-short
judged-requires-clause-short c =
    let sized : c.unwrap-shape.result ≡ sizes c.args.cells c.args.eager c.args.script.now.ranks = search rules in
    let low : c.args.script.now.ranks < 256 = search rules in
    let same : c.unwrap-shape.result.ranks ≡ c.args.script.now.ranks = ap (λ (s : Sizes). s.ranks) sized in
    let few = few_lines c.unwrap-shape.result c.args.rest.now c.in-Ok.run' c.in-Ok.ensures.taken
    (omega (arith, same, low)) in
    let short = c.requires.short in
    omega (arith, few, short)

pub returns-in_ok-judgement-in-Ok-clause-found : goal.returns-in_ok-judgement-in-Ok-clause-found
returns-in_ok-judgement-in-Ok-clause-found c =
    let sized : c.unwrap-shape.result ≡ sizes c.args.cells c.args.eager c.args.script.now.ranks = search rules in
    let low : c.args.script.now.ranks < 256 = search rules in
    let few : c.args.script.now.ranks < 2 ^ 64 = omega (arith, low) in
    let trace : IsTraceOf (sizes c.args.cells c.args.eager c.args.script.now.ranks) c.args.rest.now c.in-Ok.run' =
    subst (λ (s : Sizes). IsTraceOf s c.args.rest.now c.in-Ok.run') sized c.in-Ok.ensures.taken in
    let judged : IsJudgement (lines_in c.args.rest.now) c.args.script.now.lines c.in-Ok.run'
    c.in_ok-judgement-in-Ok.judgement = rw c.lines_in.ensures at c.in_ok-judgement-in-Ok.ensures.first in (
      refl,
      trace,
      judged,
      all_stand (sizes c.args.cells c.args.eager c.args.script.now.ranks) c.args.rest.now c.in-Ok.run' trace few
          c.args.script.now.lines c.in_ok-judgement-in-Ok.judgement judged.rests,
    )
