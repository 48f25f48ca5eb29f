-- One line more, whose send may wait or not.
use Rattle.std.proofs.Common.{◌≡◌, ◌+◌, ◌*◌, ◌/◌, ◌<◌, ◌≤◌, Bool, true, false, arith, ap, get_or, sym, take, ◌∙◌}
use Rattle.std.proofs.Math.Nat.{div-mul-le_self, lt-div-mul-add}
use Rattle.nm_types.specs.declared.scripts.Line.{Line}
use Rattle.nm_variants.specs.Variants.{may_wait, variants}
use Rattle.nm_variants.proofs.NumberLemmas.{count_no, count_yes, first_fewer}
use Rattle.nm_variants.proofs.variants.count.Goals as goal
use Rattle.nm_variants.proofs.variants.count.Goals.{then-may_wait+else-count-most, else-may_wait}

pub returns-then-count-most-clause-none : goal.returns-then-count-most-clause-none
returns-then-count-most-clause-none c none =
    let lines = c.args.lines.now in
    let k = c.loop-line.line-index in
    let wait : may_wait c.args.eager (get_or lines k c.line-item.result).command ≡ true =
    ap (λ (l : Line). may_wait c.args.eager l.command) (sym c.line-item.is)
    ∙ sym c.may_wait.ensures ∙ c.if-may_wait.true in
    let twice = count_yes c.args.eager k lines c.line-item.result c.loop-line-test.true wait in
    let few = first_fewer c.args.eager (k + 1) lines in
    let half : c.args.most < c.args.most / 2 * 2 + 2 = lt-div-mul-add (omega arith) in
    omega (arith, twice, few, half, c.loop-line.invariant.0, c.if-count-most.true)

pub loop-line-preserved : goal.loop-line-preserved
loop-line-preserved c =
    let lines = c.args.lines.now in
    let k = c.loop-line.line-index in
    let same : may_wait c.args.eager (get_or lines k c.line-item.result).command ≡ c.may_wait.result =
    ap (λ (l : Line). may_wait c.args.eager l.command) (sym c.line-item.is) ∙ sym c.may_wait.ensures in
    elim c.if-may_wait.branch [
      | then-may_wait+else-count-most w ↦
          let twice =
          count_yes c.args.eager k lines c.line-item.result c.loop-line-test.true (same ∙ w.if-may_wait.true) in
          let half : c.args.most / 2 * 2 ≤ c.args.most = div-mul-le_self c.args.most 2 in (
            omega (arith, twice, w.count-is, c.loop-line.invariant.0),
            omega (arith, half, w.count-is, w.if-count-most.false),
          )
      | else-may_wait w ↦
          let as_many =
          count_no c.args.eager k lines c.line-item.result c.loop-line-test.true (same ∙ w.if-may_wait.false) in (
            omega (arith, as_many, w.count-is, c.loop-line.invariant.0),
            omega (arith, w.count-is, c.loop-line.invariant.1),
          )
    ]
