use Rattle.std.proofs.Common.{◌≡◌, ◌∙◌, ◌↔◌, Bool, true, ap, is_some, sym, subst, ℕ}
use Rattle.nm_rndv.specs.Grants.{expected_in}
use Rattle.nm_receiving.specs.Receipts.{ReceivingView, drawn_from, granted_to}
use Rattle.nm_receiving.specs.Received.{AreReceived, IsOwed}
use Rattle.nm_receiving.specs.Seen.{seen}
use Rattle.nm_receiving.proofs.Answering.{due_is}
use Rattle.nm_receiving.proofs.Owing.{expected_where_owed}
use Rattle.nm_receiving.proofs.receivings.Receiving.is_due.Goals as goal

pub returns-clause-value : goal.returns-clause-value
returns-clause-value c = λ h received.
    let from = c.args.from in
    c.is_due.ensures
    ∙ ap (λ (v : ReceivingView). is_some (expected_in (granted_to v from))) c.self.view_is
    ∙ due_is (granted_to c.args.self.now from) h from (drawn_from c.args.self.now from) (received.due from)

pub returns-clause-owed : goal.returns-clause-owed
returns-clause-owed c = λ h received.
    let from = c.args.from in
    let a : ReceivingView = seen c.self.inside in
    let here = subst (λ (v : ReceivingView). AreReceived v h) (sym c.self.view_is) received in
    subst (λ (b : Bool). (b ≡ true) ↔ ((n : ℕ) × IsOwed h from n))
    (sym c.is_due.ensures)
    (expected_where_owed a c.self.invariant from h here)
