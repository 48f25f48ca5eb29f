use Rattle.std.proofs.Common.{sym, ◌∙◌, subst}
use Rattle.nm_match.proofs.StandsLemmas.{is_claimed-stands}
use Rattle.nm_receiving.specs.Receipts.{ReceivingView}
use Rattle.nm_receiving.specs.Received.{AreReceived}
use Rattle.nm_receiving.proofs.receivings.Receiving.is_claimed.Goals as goal

pub returns : goal.returns
returns c = λ h received.
    let here = subst (λ (v : ReceivingView). AreReceived v h) (sym c.self.view_is) received in
    c.is_claimed.ensures.value ∙ sym (is_claimed-stands c.self.inside.matcher h here.stands c.args.from c.args.n)
