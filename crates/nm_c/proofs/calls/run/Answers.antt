-- A command was run, or refused by a fault.
use Rattle.std.proofs.Common.{refl, ap, ◌∙◌}
use Rattle.std.proofs.lemmas.Result.{err_from_is_err_and}
use Rattle.nm_c.specs.Codes.{code_of_fault, code_said}
use Rattle.nm_c.proofs.Reasons.{by_fault}
use Rattle.nm_c.proofs.Refused.{fault_is_refusal}
use Rattle.nm_c.proofs.calls.run.Goals as goal

pub returns-clause-ran : goal.returns-clause-ran
returns-clause-ran c = record {
  step = c.in_ok-_step._step;
  called = c.in_ok-_step.ensures.ran;
  said = c.said.ensures ∙ ap code_said c.answer.ensures;
}

pub returns-in_err-_step-clause-refused : goal.returns-in_err-_step-clause-refused
returns-in_err-_step-clause-refused c =
    let p = err_from_is_err_and c.from_residual.result c.from_residual.ensures.1 in
    rw (p.1, p.2) (record {
      kind = fault_is_refusal _;
      same = λ ne. c.in_err-_step.ensures.refused (λ memory. ne (ap code_of_fault memory));
    })

pub returns-in_err-_step-clause-cause : goal.returns-in_err-_step-clause-cause
returns-in_err-_step-clause-cause c =
    let p = err_from_is_err_and c.from_residual.result c.from_residual.ensures.1 in
    rw (p.1, p.2) (by_fault _ _ _ _ refl c.in_err-_step.ensures.cause)
