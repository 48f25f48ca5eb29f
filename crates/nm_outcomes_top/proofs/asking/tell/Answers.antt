-- What is told, by the question.
use Rattle.std.proofs.Common.{subst, sym}
use Rattle.std.specs.Prelude.{IfOk}
use Rattle.nm_outcomes_top.specs.declared.words.Question.{Question}
use Rattle.nm_outcomes_top.specs.Answers.{IsFinding}
use Rattle.nm_outcomes_top.proofs.asking.tell.Goals as goal

pub returns-in-All : goal.returns-in-All
returns-in-All c =
    subst (λ (q : Question). IfOk c.tell_all.result
    (IsFinding q c.args.shape c.args.script.now.lines c.args.report.now)) (sym c.in-All.is)
    (c.tell_all.ensures c.args.report.now)

pub returns-in-Trace : goal.returns-in-Trace
returns-in-Trace c =
    subst (λ (q : Question). IfOk c.tell_trace.result
    (IsFinding q c.args.shape c.args.script.now.lines c.args.report.now)) (sym c.in-Trace.is)
    (c.tell_trace.ensures c.args.report.now)
