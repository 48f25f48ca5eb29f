use Rattle.std.specs.Prelude.{IsSome}
use Rattle.std.proofs.Common.{refl, sym, subst, arith}
use Rattle.nm_receiving.specs.declared.receipts.Receive.{Receive}
use Rattle.nm_receiving.specs.Receives.{ReceivesView, live_at}
use Rattle.nm_receiving.specs.Steps.{has_ended}
use Rattle.nm_receiving.proofs.Lives.{first_later, live_held}
use Rattle.nm_receiving.proofs.receives.Receives.end.Goals as goal

pub set-requires : goal.set-requires
set-requires c =
    live_held c.self.inside.kept c.self.invariant c.args.number
    (subst (λ (v : ReceivesView). IsSome (live_at v.items c.args.number)) (sym c.self.view_is) c.requires)

pub let_go-requires-clause-behind : goal.let_go-requires-clause-behind
let_go-requires-clause-behind c =
    let r : Receive = c.unwrap-receive.result in
    let later = first_later c.self.inside.kept.items c.args.number (has_ended r) refl in
    rw c.set.ensures (omega (arith, c.self.invariant.first, later))
