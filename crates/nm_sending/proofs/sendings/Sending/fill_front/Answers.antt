-- Where no letter is left, no eager message waits.
use Rattle.std.proofs.Common.{sym, subst}
use Rattle.nm_sending.specs.contracts.sendings.Sending.{the_view}
use Rattle.nm_sending.specs.Departures.{SendingView}
use Rattle.nm_sending.specs.Sent.{AreSent}
use Rattle.nm_sending.proofs.RestLemmas.{all_left, no_letters}
use Rattle.nm_sending.proofs.sendings.Sending.fill_front.Goals as goal

pub returns-clause-left : goal.returns-clause-left
returns-clause-left c =
    let a = c.self.inside in
    λ none h was. all_left a.me a.ranks (the_view a) c.self.invariant
    (no_letters c.fill_front.result a.outbox.letters _ none c.fill_front.ensures.first) h
    (subst (λ (v : SendingView). AreSent v h) (sym c.self.view_is) was)
