use Rattle.std.proofs.Common.{◌≡◌, ◌+◌, ◌≤◌, ℕ, ◌∙◌, sym, ap, subst}
use Rattle.std.specs.Prelude.{None}
use Rattle.nm_sending.specs.Sent.{Puts}
use Rattle.nm_rank.specs.Requests.{withdrawal_of}
use Rattle.nm_rank.proofs.CancelLemmas.{again, again-offers, first, first-offers, first-puts}
use Rattle.nm_rank.proofs.requests.recall.Goals as goal

pub returns-then-was_recalled-clause-kept : goal.returns-then-was_recalled-clause-kept
returns-then-was_recalled-clause-kept g c = λ h events e a.
    again c.args.sending.now c.args.to c.args.n h events
    (sym (c.was_recalled.ensures h a) ∙ c.if-was_recalled.true) e a

pub returns-clause-kept : goal.returns-clause-kept
returns-clause-kept g c = λ h events e a.
    first c.args.sending.now c.recall.new.self c.args.to c.args.n h events
    (sym (c.was_recalled.ensures h a) ∙ c.if-was_recalled.false) e a c.in_ok-recall.ensures.recalled.kept

pub returns-clause-puts : goal.returns-clause-puts
returns-clause-puts g c = λ h called a below. (
    let at : c.clock-stamp.result + 1 ≡ c.add.new.self.clock =
    ap (λ (k : ℕ). k + 1) c.clock-stamp.ensures.value ∙ sym c.add.ensures.clock in
    subst (λ (k : ℕ). Puts (withdrawal_of h called c.args.to c.args.n) None k c.args.sending.now.outbox
    c.recall.new.self.outbox) at
    (first-puts h called c.args.to c.args.n (c.clock-stamp.result + 1) c.args.sending.now.outbox
    c.recall.new.self.outbox (sym (c.was_recalled.ensures h a) ∙ c.if-was_recalled.false)
    (c.in_ok-recall.ensures.recalled.puts called (subst (λ (k : ℕ). called ≤ k) (sym at) below))))

pub returns-then-was_recalled-clause-offers : goal.returns-then-was_recalled-clause-offers
returns-then-was_recalled-clause-offers g c = λ h a.
    again-offers h c.args.to c.args.n c.args.sending.now.offers
    (sym (c.was_recalled.ensures h a) ∙ c.if-was_recalled.true)

pub returns-clause-offers : goal.returns-clause-offers
returns-clause-offers g c = λ h a.
    first-offers h c.args.to c.args.n c.args.sending.now.offers c.recall.new.self.offers
    (sym (c.was_recalled.ensures h a) ∙ c.if-was_recalled.false) c.in_ok-recall.ensures.recalled.recalled
