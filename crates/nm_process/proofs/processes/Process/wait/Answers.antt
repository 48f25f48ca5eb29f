-- A process waits for a request.
use Rattle.std.proofs.Common.{inl, inr, ap, ◌∙◌, Err, subst}
use Rattle.nm_types.specs.declared.answers.Answer.TheVariants as answer
use Rattle.nm_process.specs.declared.steps.Step.TheVariants as step_is
use Rattle.nm_process.specs.Processes.{ProcessView}
use Rattle.nm_process.specs.Starts.{HasAnswered, HasTriedWait}
use Rattle.nm_process.proofs.StartLemmas.{ok_step}
use Rattle.nm_process.proofs.processes.Process.wait.Goals as goal

pub returns-in-Ok-clause-tried : goal.returns-in-Ok-clause-tried
returns-in-Ok-clause-tried g c =
    let a = c.args.self.now in
    let b = c.answer.new.self in
    ok_step (HasTriedWait a b c.args.q c.args.line) c.answer.result step_is.Ran
    c.answer.ensures.ran c.answer.ensures.answered
    (λ answered. inr (record {
      mid = c.end.new.self;
      answer = c.in-Ok.answer;
      ends = c.in-Ok.ensures.ends;
      answered = answered;
    }))

pub returns-in-Err-NoSuch-clause-tried : goal.returns-in-Err-NoSuch-clause-tried
returns-in-Err-NoSuch-clause-tried g c =
    let a = c.args.self.now in
    let b = c.answer-in-Err-NoSuch.new.self in
    ok_step (HasTriedWait a b c.args.q c.args.line) c.answer-in-Err-NoSuch.result step_is.Ran
    c.answer-in-Err-NoSuch.ensures.ran c.answer-in-Err-NoSuch.ensures.answered
    (λ answered. inl (record {
      free = c.end.ensures.null (c.in-Err-NoSuch.is ∙ ap (λ f. Err f) c.in-Err-NoSuch.field-0-is);
      answered = subst (λ (v : ProcessView). HasAnswered v b c.args.line answer.Null)
          c.in-Err-NoSuch.ensures.still answered;
    }))

pub returns-in-Err-NotComplete-clause-tried : goal.returns-in-Err-NotComplete-clause-tried
returns-in-Err-NotComplete-clause-tried g c = (
  c.end.ensures.pending (c.in-Err-NotComplete.is ∙ ap (λ f. Err f) c.in-Err-NotComplete.field-0-is),
  c.in-Err-NotComplete.ensures.still,
)
