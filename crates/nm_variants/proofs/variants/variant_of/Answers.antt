-- One line more.
use Rattle.std.proofs.Common.{ℕ, List, [], ◌∷◌, ◌++◌, ap, sym, take, ◌∙◌}
use Rattle.nm_types.specs.declared.scripts.Line.{Line}
use Rattle.nm_variants.specs.Variants.{line_by, number_after, number_behind, variant_of}
use Rattle.nm_variants.proofs.NumberLemmas.{number_more, variant_more}
use Rattle.nm_variants.proofs.variants.variant_of.Goals as goal

pub loop-line-preserved : goal.loop-line-preserved
loop-line-preserved c =
    let lines = c.args.lines.now in
    let k = c.loop-line.line-index in
    let item = c.line-item.result in
    let left = number_after c.args.eager c.args.number (take k lines) in (
      c.in_ok-push.ensures.items
          ∙ ap (λ (ls : List Line). ls ++ c.in_ok-line_by.field-0 ∷ []) c.loop-line.invariant.0
          ∙ ap (λ (l : Line). variant_of c.args.eager c.args.number (take k lines) ++ l ∷ [])
          (c.in_ok-line_by.ensures ∙ ap (λ (n : ℕ). line_by c.args.eager n item) c.loop-line.invariant.1
          ∙ ap (λ (l : Line). line_by c.args.eager left l) c.line-item.is)
          ∙ sym (variant_more c.args.eager c.args.number k lines item c.loop-line-test.true),
      c.number_behind-left.ensures ∙ ap (λ (n : ℕ). number_behind c.args.eager n item) c.loop-line.invariant.1
          ∙ ap (λ (l : Line). number_behind c.args.eager left l) c.line-item.is
          ∙ sym (number_more c.args.eager c.args.number k lines item c.loop-line-test.true),
    )
