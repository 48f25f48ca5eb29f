use Rattle.std.proofs.Common.{◌∙◌, sym}
use Rattle.nm_rndv.proofs.StateLemmas.{waiting_has_body, withdrawn_other, withdrawn_waiting}
use Rattle.nm_rndv.proofs.destinations.withdraw_if.Goals as goal

pub set-requires-clause-there : goal.set-requires-clause-there
set-requires-clause-there c = waiting_has_body _ (sym c.waits.ensures ∙ c.if-not-waits.false)

pub returns-then-not-waits-clause-entries : goal.returns-then-not-waits-clause-entries
returns-then-not-waits-clause-entries c =
    rw c.if-not-done.false (sym (withdrawn_other c.args.asked.now.entries c.args.n
    (sym c.waits.ensures ∙ c.if-not-waits.true)))

pub returns-then-not-waits-clause-withdrawn : goal.returns-then-not-waits-clause-withdrawn
returns-then-not-waits-clause-withdrawn c =
    rw c.if-not-done.false (sym c.if-not-waits.true ∙ c.waits.ensures)

pub returns-clause-withdrawn : goal.returns-clause-withdrawn
returns-clause-withdrawn c =
    rw c.if-not-done.false (sym c.if-not-waits.false ∙ c.waits.ensures)

pub returns-clause-entries : goal.returns-clause-entries
returns-clause-entries c =
    rw c.if-not-done.false (c.set.ensures.entries ∙ sym (withdrawn_waiting c.args.asked.now.entries c.args.n
    (sym c.waits.ensures ∙ c.if-not-waits.false)))
