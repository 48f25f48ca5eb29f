use Rattle.std.proofs.Common.{◌≡◌, ◌<◌, ◌≤◌, ℕ, ◌∷◌, [], Vec, Global, get_or, sym, ◌∙◌, ap, arith, append-nil}
use Rattle.std.proofs.lemmas.List.{map-append}
use Rattle.nm_report.specs.declared.pairs.PairCount.{PairCount}
use Rattle.nm_report.specs.Ends.{packets_of}
use Rattle.nm_check.specs.Counting.{at_most, counted_pair}
use Rattle.nm_check.proofs.CountingLemmas.{none_due, some_due}
use Rattle.nm_check.proofs.MiscountLemmas.{row_kept, row_pushed}
use Rattle.nm_check.proofs.rest.counts.push_row.Goals as goal
use Rattle.nm_check.proofs.rest.counts.push_row.Goals.{then-count-gt0+in_ok-push, else-count-gt0}

pub loop-to-init : goal.loop-to-init
loop-to-init c = λ packets due few. sym (append-nil (packets_of c.args.due.now.items))

pub overflow_cast-packets : goal.overflow_cast-packets
overflow_cast-packets c =
    let low : c.loop-to.to < 256 = omega arith in
    omega (arith, c.requires c.loop-to.to low)

pub loop-to-preserved : goal.loop-to-preserved
loop-to-preserved c = λ packets due few.
    let low : c.loop-to.to < 256 = omega arith in
    let each = due c.loop-to.to low in
    let small = few c.loop-to.to in
    elim c.if-count-gt0.branch [
      | then-count-gt0+in_ok-push w ↦
          let n : ℕ = get_or c.args.counts.now c.loop-to.to 0 in
          let p : PairCount = record { from = c.args.from; to = c.loop-to.to; packets = n } in
          let some : 0 < at_most (packets c.loop-to.to) = omega (arith, each, w.if-count-gt0.true) in
          let exact : n ≡ packets c.loop-to.to = omega (arith, each, small) in
          ap (λ (v : Vec PairCount Global). packets_of v.items) w.due-is ∙ ap packets_of w.in_ok-push.ensures.items
          ∙ map-append counted_pair c.loop-to.due.items (p ∷ [])
          ∙ row_pushed c.args.from packets c.loop-to.to (packets_of c.args.due.now.items)
          (packets_of c.loop-to.due.items) (c.loop-to.invariant packets due few) (counted_pair p)
          (some_due (packets c.loop-to.to) some)
          (ap (λ (m : ℕ). counted_pair (record { from = c.args.from; to = c.loop-to.to; packets = m })) exact)
      | else-count-gt0 w ↦
          let none : at_most (packets c.loop-to.to) ≤ 0 = omega (arith, each, w.if-count-gt0.false) in
          ap (λ (v : Vec PairCount Global). packets_of v.items) w.due-is
          ∙ row_kept c.args.from packets c.loop-to.to (packets_of c.args.due.now.items)
          (packets_of c.loop-to.due.items) (c.loop-to.invariant packets due few)
          (none_due (packets c.loop-to.to) none)
    ]
