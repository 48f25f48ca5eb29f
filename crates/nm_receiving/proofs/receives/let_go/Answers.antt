use Rattle.std.proofs.Common.{◌<◌, ◌≤◌, ◌∙◌, length, sym, arith}
use Rattle.nm_receiving.proofs.Lives.{first_gone, first_none, first_stays}
use Rattle.nm_receiving.proofs.receives.let_go.Goals as goal

pub returns-then-not-first_goes-clause-first : goal.returns-then-not-first_goes-clause-first
returns-then-not-first_goes-clause-first c =
    let l = c.loop-gone in
    let within : l.kept.forgotten < length c.args.kept.now.items =
    omega (arith, l.invariant.1, c.held-gone-end.ensures) in
    first_stays c.args.kept.now.items l.kept.forgotten l.invariant.2 within
    (rw l.invariant.0 at (sym c.first_goes.ensures ∙ c.if-not-first_goes.true))

pub loop-gone-preserved : goal.loop-gone-preserved
loop-gone-preserved c =
    let l = c.loop-gone in
    let within : l.kept.forgotten < length c.args.kept.now.items =
    omega (arith, l.invariant.1, c.held-gone-end.ensures) in
    let later = first_gone c.args.kept.now.items l.kept.forgotten l.invariant.2 within
    (rw l.invariant.0 at (sym c.first_goes.ensures ∙ c.if-not-first_goes.false)) in
    rw c.forget_first.ensures
    (l.invariant.0, omega (arith, l.invariant.1), later, omega (arith, l.invariant.3))

pub returns-clause-first : goal.returns-clause-first
returns-clause-first c =
    let l = c.loop-gone in
    let all : length c.args.kept.now.items ≤ l.kept.forgotten =
    omega (arith, l.invariant.1, c.held-gone-end.ensures) in
    first_none c.args.kept.now.items l.kept.forgotten l.invariant.2 all
