use Rattle.std.proofs.Common.{◌<◌, ◌≤◌, arith}
use Rattle.nm_report.specs.Ends.{packets_of}
use Rattle.nm_check.specs.Counting.{at_most}
use Rattle.nm_check.proofs.CountingLemmas.{none_due, row_breaks, row_more, row_same, some_due}
use Rattle.nm_check.proofs.rest.counts.behind_row.Goals as goal
use Rattle.nm_check.proofs.rest.counts.behind_row.Goals.{then-count-gt0+in-Some, else-count-gt0}

pub returns-in-None : goal.returns-in-None
returns-in-None c = λ due each rest same.
    let low : c.loop-to.to < 256 = omega arith in
    let some : 0 < at_most (due c.loop-to.to) = omega (arith, each c.loop-to.to low) in
    row_breaks c.args.from due c.loop-to.to c.args.ranks c.loop-to-test.true (packets_of c.args.pairs.now)
    (packets_of c.loop-to.left.now) rest
    (c.loop-to.invariant due each) (some_due (due c.loop-to.to) some)
    (c.in-None.ensures (due c.loop-to.to) (each c.loop-to.to low)) same

pub loop-to-preserved : goal.loop-to-preserved
loop-to-preserved c = λ due each.
    let low : c.loop-to.to < 256 = omega arith in
    elim c.if-count-gt0.branch [
      | then-count-gt0+in-Some w ↦ let some : 0 < at_most (due c.loop-to.to) =
          omega (arith, each c.loop-to.to low, w.if-count-gt0.true) in
          rw w.left-is (row_more c.args.from due c.loop-to.to (packets_of c.args.pairs.now)
          (packets_of c.loop-to.left.now) (packets_of w.in-Some.others.now)
          (c.loop-to.invariant due each) (some_due (due c.loop-to.to) some)
          (w.in-Some.ensures (due c.loop-to.to) (each c.loop-to.to low)))
      | else-count-gt0 w ↦ let none : at_most (due c.loop-to.to) ≤ 0 =
          omega (arith, each c.loop-to.to low, w.if-count-gt0.false) in
          rw w.left-is (row_same c.args.from due c.loop-to.to (packets_of c.args.pairs.now)
          (packets_of c.loop-to.left.now)
          (c.loop-to.invariant due each) (none_due (due c.loop-to.to) none))
    ]
