use Rattle.std.proofs.lemmas.Result.{IfOk-weaker}
use Rattle.nm_cli.proofs.RunLemmas.{plan_of_bytes}
use Rattle.nm_cli.proofs.plans.answer_plan.Goals as goal

pub returns-in-Ok : goal.returns-in-Ok
returns-in-Ok g c =
    let plan = c.in-Ok.plan in
    IfOk-weaker c.run_plan.result _ _
    (plan_of_bytes c.args.line.now c.args.bytes.now plan.ranks plan.lines c.requires.parts c.in-Ok.ensures.taken)
    c.run_plan.ensures
