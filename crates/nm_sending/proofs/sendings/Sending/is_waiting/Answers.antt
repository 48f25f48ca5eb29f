-- By the state of its offer.
use Rattle.std.proofs.Common.{◌<◌, Bool, length, not, ◌&&◌, ◌∙◌, ap, arith, subst, sym, true}
use Rattle.nm_history.specs.Continues.{has}
use Rattle.nm_history.specs.Delivery.{is_asked}
use Rattle.nm_history.specs.Sends.{sends}
use Rattle.nm_rndv.specs.Offers.{state_of}
use Rattle.nm_sending.specs.contracts.sendings.Sending.{the_view}
use Rattle.nm_sending.specs.Departures.{SendingView, cleared_to, departure_of, passes, was_undone}
use Rattle.nm_sending.proofs.ClearLemmas.{waits_is}
use Rattle.nm_sending.proofs.sendings.Sending.is_waiting.Goals as goal

pub is_asked-requires : goal.is_asked-requires
is_asked-requires c =
    let to = subst (λ (v : SendingView). c.args.to < length v.outbox.popped) (sym c.self.view_is) c.requires in
    omega (arith, to, c.self.invariant.letters, c.self.invariant.offers)

pub returns : goal.returns
returns c =
    let v = the_view c.self.inside in
    let to = c.args.to in
    let n = c.args.n in
    let cleared = has (cleared_to v to) n in
    rw (← c.self.view_is)
    (λ h was. c.is_asked.ensures
    ∙ waits_is (departure_of v to n) cleared (state_of v.offers to n) (c.self.invariant.states to n)
    ∙ ap (λ (b : Bool). b && not cleared && not (passes (was_undone true) (departure_of v to n)))
    (was.asked to n)
    ∙ ap (λ (b : Bool). is_asked (sends h to) n && not cleared && not b) (was.undone to n true))
