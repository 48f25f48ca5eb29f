use Rattle.nm_check.proofs.MiscountLemmas.{ends_first, same_more}
use Rattle.nm_check.proofs.rest.counts.first_miscount.Goals as goal

pub loop-k-preserved : goal.loop-k-preserved
loop-k-preserved c =
    same_more c.args.pairs.now c.args.due.now c.loop-k.k c.loop-k.invariant _ c.loop-k-test.true
    c.if-not-is_due_at.ensures

pub returns-then-pairs-due : goal.returns-then-pairs-due
returns-then-pairs-due c =
    ends_first c.args.pairs.now c.args.due.now c.loop-k.k c.loop-k.invariant c.loop-k-test.false c.loop-k.auto.k-end
    c.if-pairs-due.true
