use Rattle.std.proofs.Common.{ℕ, ◌+◌, sym, subst}
use Rattle.nm_check.proofs.WaitLemmas.{ComesAfter, behind_other, behind_own, it_is, none_behind}
use Rattle.nm_check.proofs.rest.waits.next_place.Goals as goal
use Rattle.nm_check.proofs.rest.waits.next_place.Goals.{then-line-rank+else-left-eq0, else-line-rank}

pub returns-then-left-eq0 : goal.returns-then-left-eq0
returns-then-left-eq0 c =
    it_is c.args.rank c.args.at c.args.lines.now c.loop-k.k c.loop-k.left c.index-lines-k.result c.loop-k-test.true
    c.index-lines-k.is c.loop-k.invariant
    c.if-line-rank.true c.if-left-eq0.true

pub loop-k-preserved : goal.loop-k-preserved
loop-k-preserved c =
    elim c.if-line-rank.branch [
      | then-line-rank+else-left-eq0 w ↦ subst (λ (n : ℕ). ComesAfter c.args.rank c.args.at c.args.lines.now
          (c.loop-k.k + 1) n) (sym w.left-is)
          (behind_own c.args.rank c.args.at c.args.lines.now c.loop-k.k c.loop-k.left c.index-lines-k.result
          c.loop-k-test.true c.index-lines-k.is
          c.loop-k.invariant w.if-line-rank.true w.if-left-eq0.false)
      | else-line-rank w ↦ subst (λ (n : ℕ). ComesAfter c.args.rank c.args.at c.args.lines.now (c.loop-k.k + 1) n)
          (sym w.left-is)
          (behind_other c.args.rank c.args.at c.args.lines.now c.loop-k.k c.loop-k.left c.index-lines-k.result
          c.loop-k-test.true c.index-lines-k.is
          c.loop-k.invariant w.if-line-rank.false)
    ]

pub returns : goal.returns
returns c = none_behind c.args.rank c.args.at c.args.lines.now c.loop-k.k c.loop-k.left c.loop-k-test.false
    c.loop-k.invariant
