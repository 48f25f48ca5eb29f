use Rattle.std.proofs.Common.{sym, ◌∙◌, subst}
use Rattle.nm_match.proofs.StandsLemmas.{first_message-stands}
use Rattle.nm_receiving.specs.Receipts.{ReceivingView}
use Rattle.nm_receiving.specs.Received.{AreReceived}
use Rattle.nm_receiving.proofs.receivings.Receiving.probe.Goals as goal

pub returns : goal.returns
returns c = λ h received.
    let here = subst (λ (v : ReceivingView). AreReceived v h) (sym c.self.view_is) received in
    c.probe.ensures.oldest
    ∙ sym (first_message-stands c.self.inside.matcher h here.stands c.args.from c.args.tag c.args.ctx)
