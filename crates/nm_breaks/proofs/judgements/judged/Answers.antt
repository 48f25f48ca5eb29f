use Rattle.std.proofs.lemmas.Result.{IfOk-weaker}
use Rattle.nm_breaks.specs.Judgements.{judged_as}
use Rattle.nm_check.proofs.ExactLemmas.{only_holds}
use Rattle.nm_breaks.proofs.judgements.judged.Goals as goal

pub returns-in_ok-found-in-Run-clause-first : goal.returns-in_ok-found-in-Run-clause-first
returns-in_ok-found-in-Run-clause-first c = rw c.as_slice-lines.ensures at c.tabled_judgement.ensures

pub returns-in_ok-found-in-Run-clause-exact : goal.returns-in_ok-found-in-Run-clause-exact
returns-in_ok-found-in-Run-clause-exact c = λ is.
    IfOk-weaker c.tabled_judgement.result _ _
    (λ judgement judged. only_holds c.args.script.now.lines c.args.run.now (judged_as judgement) is judged.right)
    (rw c.as_slice-lines.ensures at c.tabled_judgement.ensures)

pub returns-in-Breaks-clause-first : goal.returns-in-Breaks-clause-first
returns-in-Breaks-clause-first c = rw c.as_slice-lines.ensures at (c.own_judgement.ensures c.args.count)

pub returns-in-Breaks-clause-exact : goal.returns-in-Breaks-clause-exact
returns-in-Breaks-clause-exact c = λ is.
    only_holds c.args.script.now.lines c.args.run.now (judged_as c.own_judgement.result) is
    (rw c.as_slice-lines.ensures at (c.own_judgement.ensures c.args.count)).right
