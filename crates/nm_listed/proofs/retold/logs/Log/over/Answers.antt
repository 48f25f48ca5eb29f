-- A message that may leave.
use Rattle.std.proofs.Common.{◌≡◌, ◌∙◌, List, ap, subst, sym}
use Rattle.std.specs.Prelude.{OnOk}
use Rattle.nm_outcomes.specs.Logs.{Step}
use Rattle.nm_listed.specs.Tellings.{with_out, with_whole}
use Rattle.nm_listed.proofs.TurnLemmas.{over_when}
use Rattle.nm_listed.proofs.retold.logs.Log.over.Goals as goal

pub returns-then-may_leave : goal.returns-then-may_leave
returns-then-may_leave c =
    subst (λ (log : List Step). OnOk c.leave.result (c.leave.new.self ≡ log))
    (ap (λ (log : List Step). with_whole (with_out log c.args.i c.args.j c.args.n) c.args.j c.args.i c.args.n)
    c.in_ok-answered.ensures
    ∙ sym (over_when c.args.rank.now c.args.other.now c.args.i c.args.j c.args.n c.args.self.now
    (sym c.may_leave.ensures ∙ c.if-may_leave.true))) c.leave.ensures
