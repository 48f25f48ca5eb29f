use Rattle.std.proofs.Common.{sym, subst}
use Rattle.nm_check.specs.declared.verdicts.Verdict.{Verdict}
use Rattle.nm_check.specs.Verdicts.{Judges}
use Rattle.nm_check.proofs.ExactLemmas.{only_holds}
use Rattle.nm_check.proofs.judging.judge.Goals as goal

pub returns-in_ok-found-in-Run-clause-first : goal.returns-in_ok-found-in-Run-clause-first
returns-in_ok-found-in-Run-clause-first c =
    subst (λ (v : Verdict). Judges c.args.script.now.lines c.args.run.now v) (sym c.verdict_of.ensures)
    c.in_ok-found-in-Run.ensures.judged

pub returns-in_ok-found-in-Run-clause-exact : goal.returns-in_ok-found-in-Run-clause-exact
returns-in_ok-found-in-Run-clause-exact c = λ is.
    only_holds c.args.script.now.lines c.args.run.now c.verdict_of.result is
    (subst (λ (v : Verdict). Judges c.args.script.now.lines c.args.run.now v) (sym c.verdict_of.ensures)
    c.in_ok-found-in-Run.ensures.judged)
