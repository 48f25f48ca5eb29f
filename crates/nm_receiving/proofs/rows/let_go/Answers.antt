use Rattle.std.proofs.Common.{◌∙◌, sym, arith}
use Rattle.nm_receiving.proofs.RowLemmas.{settled-few, settled-goes, settled-stays}
use Rattle.nm_receiving.proofs.rows.let_go.Goals as goal

pub returns-then-not-first_goes-clause-first : goal.returns-then-not-first_goes-clause-first
returns-then-not-first_goes-clause-first c =
    let l = c.loop-gone in
    settled-stays c.args.settled.now.items l.settled.forgotten l.invariant.2
    (rw l.invariant.0 at (sym c.first_goes.ensures ∙ c.if-not-first_goes.true))

pub loop-gone-preserved : goal.loop-gone-preserved
loop-gone-preserved c =
    let l = c.loop-gone in
    let later = settled-goes c.args.settled.now.items l.settled.forgotten l.invariant.2
    (rw l.invariant.0 at (sym c.first_goes.ensures ∙ c.if-not-first_goes.false)) in
    rw c.forget_first.ensures (l.invariant.0, omega (arith, l.invariant.1), later)

pub returns-clause-first : goal.returns-clause-first
returns-clause-first c =
    let l = c.loop-gone in
    omega (arith, l.invariant.1, l.invariant.2, c.held-gone-end.ensures, settled-few c.args.settled.now.items)
