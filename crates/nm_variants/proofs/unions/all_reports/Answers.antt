-- Below their number there are all variants.
use Rattle.std.proofs.Common.{◌≡◌, ◌/◌, ℕ, List, ap, arith, subst, ◌∙◌}
use Rattle.nm_types.specs.declared.scripts.Line.{Line}
use Rattle.nm_variants.specs.declared.unions.Step.{Step}
use Rattle.nm_variants.specs.Reports.{IsSum}
use Rattle.nm_variants.specs.Variants.{variants}
use Rattle.nm_variants.proofs.NumberLemmas.{some}
use Rattle.nm_variants.proofs.ReportLemmas.{all}
use Rattle.nm_variants.proofs.unions.all_reports.Goals as goal

pub nonzero_div-states : goal.nonzero_div-states
nonzero_div-states c = omega (arith, c.in-Some.ensures.some.0, some c.eager.result c.as_slice.result.now)

pub returns-in-Added : goal.returns-in-Added
returns-in-Added c =
    let count : c.in-Some.count ≡ variants c.args.shape.eager c.args.script.now.lines =
    c.in-Some.ensures.some.0 ∙ ap (λ (e : ℕ). variants e c.as_slice.result.now) c.eager.ensures.value
    ∙ ap (λ (ls : List Line). variants c.args.shape.eager ls) c.as_slice.ensures in (
      all c.args.shape c.args.script.now.lines c.in-Some.count c.add_variants.new.texts count
          (subst
          (λ (s : Step). IsSum c.args.shape c.args.script.now.lines c.in-Some.count
          (c.args.states / c.in-Some.count) c.add_variants.new.texts s) c.in-Added.is
          c.in_ok-add_variants.ensures),
      count,
    )
