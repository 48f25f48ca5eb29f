-- The rank was closed, or was not open.
use Rattle.std.proofs.Common.{refl, ap, inl, inr}
use Rattle.std.proofs.lemmas.Result.{err_from_is_err_and}
use Rattle.nm_c.specs.Codes.{code_of_fault}
use Rattle.nm_c.proofs.Refused.{fault_is_refusal}
use Rattle.nm_c.proofs.calls.close.Goals as goal

pub returns-clause-ran : goal.returns-clause-ran
returns-clause-ran c = record { closed = (c.in_ok-close.ensures.ok.1, refl); told = c.left_of-had.ensures }

pub returns-in_err-close-clause-refused : goal.returns-in_err-close-clause-refused
returns-in_err-close-clause-refused c =
    let p = err_from_is_err_and c.from_residual.result c.from_residual.ensures.1 in
    rw (p.1, p.2) (record { kind = fault_is_refusal _; same = λ ne. c.in_err-close.ensures.err })

pub returns-in_err-close-clause-cause : goal.returns-in_err-close-clause-cause
returns-in_err-close-clause-cause c =
    let p = err_from_is_err_and c.from_residual.result c.from_residual.ensures.1 in
    rw (p.1, p.2) (record {
      reason = elim c.in_err-close.ensures.cause [
        | inl closed ↦ inl (ap code_of_fault closed.0, closed.1)
        | inr failed ↦ inr (ap code_of_fault failed.0, failed.1)
      ];
      same = refl;
    })
