use Rattle.std.proofs.Common.{◌<◌, length, refl, sym, ◌∙◌, subst}
use Rattle.nm_history.specs.declared.events.Happened.TheVariants.{Withdraw}
use Rattle.nm_match.proofs.StandsLemmas.{is_free_message-stands}
use Rattle.nm_receiving.specs.Receipts.{ReceivingView, receipts_from}
use Rattle.nm_receiving.specs.Received.{AreReceived}
use Rattle.nm_receiving.specs.Seen.{seen}
use Rattle.nm_receiving.proofs.Changing.{keeps-deeds}
use Rattle.nm_receiving.proofs.Goings.{arrived_below, kept-withdrawn_if, message_known}
use Rattle.nm_receiving.proofs.receivings.Receiving.withdraw.Goals as goal

pub withdraw-requires : goal.withdraw-requires
withdraw-requires c =
    let below = subst (λ (v : ReceivingView). c.args.n < length (receipts_from v c.args.from))
    (sym c.self.view_is) c.requires.came in
    record { known = message_known (seen c.self.inside) c.self.invariant c.args.from c.args.n below }

pub invariant_of-self : goal.invariant_of-self
invariant_of-self c =
    let below = subst (λ (v : ReceivingView). c.args.n < length (receipts_from v c.args.from))
    (sym c.self.view_is) c.requires.came in
    kept-withdrawn_if (seen c.self.inside) c.self.invariant c.args.from c.args.n below c.withdraw.new.self
    c.withdraw.result
    c.withdraw.ensures.late c.withdraw.ensures.deeds

pub returns-clause-value : goal.returns-clause-value
returns-clause-value c = λ h received.
    let here = subst (λ (v : ReceivingView). AreReceived v h) (sym c.self.view_is) received in
    c.withdraw.ensures.late ∙ sym (is_free_message-stands c.self.inside.matcher h here.stands c.args.from c.args.n)

pub returns-clause-kept : goal.returns-clause-kept
returns-clause-kept c = λ h events happens received.
    keeps-deeds (seen c.self.inside) (Withdraw c.args.from c.args.n c.withdraw.result) c.withdraw.new.self
    c.withdraw.ensures.deeds
    refl refl refl (λ _ _. refl) (λ _. refl) h events happens
    (subst (λ (v : ReceivingView). AreReceived v h) (sym c.self.view_is) received)

pub returns-clause-arrived : goal.returns-clause-arrived
returns-clause-arrived c = λ h received. arrived_below c.args.self.now h received c.args.from c.args.n c.requires.came
