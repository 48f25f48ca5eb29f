use Rattle.std.proofs.Common.{◌<◌, ◌≤◌, ◌∙◌, length, sym, arith}
use Rattle.nm_rndv.specs.Offers.{leaves}
use Rattle.nm_rndv.proofs.Places.{first_here, first_later, first_nowhere}
use Rattle.nm_rndv.proofs.offering.let_go.Goals as goal

pub returns-then-first_leaves-clause-first : goal.returns-then-first_leaves-clause-first
returns-then-first_leaves-clause-first c =
    let l = c.loop-gone in
    first_here (leaves c.args.destinations.now) c.args.order.now.items l.order.forgotten l.invariant.2
    (rw l.invariant.0 at (sym c.first_leaves.ensures ∙ c.if-first_leaves.true))

pub forget_first-requires : goal.forget_first-requires
forget_first-requires c =
    let l = c.loop-gone in
    rw l.invariant.0 (omega (arith, l.invariant.1, c.held-gone-end.ensures))

pub loop-gone-preserved : goal.loop-gone-preserved
loop-gone-preserved c =
    let l = c.loop-gone in
    let within : l.order.forgotten < length c.args.order.now.items =
    omega (arith, l.invariant.1, c.held-gone-end.ensures) in
    let later = first_later (leaves c.args.destinations.now) c.args.order.now.items l.order.forgotten l.invariant.2
    (rw l.invariant.0 at (sym c.first_leaves.ensures ∙ c.if-first_leaves.false)) within in
    rw c.forget_first.ensures
    (l.invariant.0, omega (arith, l.invariant.1), later, omega (arith, l.invariant.3))

pub returns-clause-first : goal.returns-clause-first
returns-clause-first c =
    let l = c.loop-gone in
    let all : length c.args.order.now.items ≤ l.order.forgotten =
    omega (arith, l.invariant.1, c.held-gone-end.ensures) in
    omega (
      arith,
      first_nowhere (leaves c.args.destinations.now) c.args.order.now.items l.order.forgotten l.invariant.2 all,
      l.invariant.1,
      c.held-gone-end.ensures,
    )
