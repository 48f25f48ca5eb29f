-- A process tests a request.
use Rattle.std.proofs.Common.{inl, inr, ap, ◌∙◌, Err, subst}
use Rattle.nm_types.specs.declared.answers.Answer.TheVariants as answer
use Rattle.nm_process.specs.Processes.{ProcessView}
use Rattle.nm_process.specs.Starts.{HasAnswered}
use Rattle.nm_process.proofs.StartLemmas.{on_ok}
use Rattle.nm_process.proofs.processes.Process.test.Goals as goal

pub returns-in-Ok-clause-tried : goal.returns-in-Ok-clause-tried
returns-in-Ok-clause-tried g c =
    on_ok c.answer.result
    (λ answered. inr (inl (record {
      mid = c.end.new.self;
      answer = c.in-Ok.answer;
      ends = c.in-Ok.ensures.ends;
      answered = answered;
    })))
    c.answer.ensures.answered

pub returns-in-Err-NoSuch-clause-tried : goal.returns-in-Err-NoSuch-clause-tried
returns-in-Err-NoSuch-clause-tried g c =
    on_ok c.answer-in-Err-NoSuch.result
    (λ answered. inl (record {
      free = c.end.ensures.null (c.in-Err-NoSuch.is ∙ ap (λ f. Err f) c.in-Err-NoSuch.field-0-is);
      answered = subst (λ (v : ProcessView). HasAnswered v c.answer-in-Err-NoSuch.new.self c.args.line
          answer.Null) c.in-Err-NoSuch.ensures.still answered;
    }))
    c.answer-in-Err-NoSuch.ensures.answered

pub returns-in-Err-NotComplete-clause-tried : goal.returns-in-Err-NotComplete-clause-tried
returns-in-Err-NotComplete-clause-tried g c =
    on_ok c.answer-in-Err-NotComplete.result
    (λ answered. inr (inr (record {
      pending = c.end.ensures.pending (c.in-Err-NotComplete.is
          ∙ ap (λ f. Err f) c.in-Err-NotComplete.field-0-is);
      answered = subst (λ (v : ProcessView). HasAnswered v c.answer-in-Err-NotComplete.new.self c.args.line
          answer.No) c.in-Err-NotComplete.ensures.still answered;
    })))
    c.answer-in-Err-NotComplete.ensures.answered
