-- By its recall among the offers.
use Rattle.std.proofs.Common.{◌<◌, ◌∙◌, length, arith, subst, sym}
use Rattle.nm_sending.specs.contracts.sendings.Sending.{the_view}
use Rattle.nm_sending.specs.Departures.{SendingView}
use Rattle.nm_sending.proofs.UndoLemmas.{awaits_is}
use Rattle.nm_sending.proofs.sendings.Sending.awaits_answer.Goals as goal

pub is_recalled-requires : goal.is_recalled-requires
is_recalled-requires c =
    let to = subst (λ (v : SendingView). c.args.to < length v.outbox.popped) (sym c.self.view_is) c.requires in
    omega (arith, to, c.self.invariant.letters, c.self.invariant.offers)

pub returns : goal.returns
returns c =
    let a = c.self.inside in
    let v = the_view a in
    rw (← c.self.view_is)
    (λ h was. c.is_recalled.ensures ∙ awaits_is a.me a.ranks v c.self.invariant h was c.args.to c.args.n)
