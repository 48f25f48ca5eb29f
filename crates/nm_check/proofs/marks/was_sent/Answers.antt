use Rattle.std.proofs.Common.{◌≡◌, ◌<◌, Option, sym, subst}
use Rattle.std.specs.Prelude.{IsSomeAnd}
use Rattle.nm_history.specs.Sends.{Sent, envelope}
use Rattle.nm_lookups.specs.Deciding.{Decides}
use Rattle.nm_check.proofs.marks.was_sent.Goals as goal

pub returns-in-Some : goal.returns-in-Some
returns-in-Some c =
    let a = c.args.a.now in
    subst (λ (o : Option Sent). Decides c.is_send_of.result
    (IsSomeAnd o (λ s. (a.env ≡ envelope a.env.from s) × (s.stamp < c.args.stamp))))
    (sym c.in-Some.ensures) c.is_send_of.ensures

pub returns-in-None : goal.returns-in-None
returns-in-None c = λ sent.
    let a = c.args.a.now in
    subst (λ (o : Option Sent). IsSomeAnd o (λ s. (a.env ≡ envelope a.env.from s) × (s.stamp < c.args.stamp)))
    c.in-None.ensures sent
