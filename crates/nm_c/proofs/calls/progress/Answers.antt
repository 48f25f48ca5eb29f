-- A turn was made, or broken off.
use Rattle.std.proofs.Common.{ap, ◌∙◌, inl, inr}
use Rattle.std.proofs.lemmas.Result.{err_from_is_err_and}
use Rattle.nm_c.specs.Codes.{code_of_fault, code_of_turn}
use Rattle.nm_c.proofs.Refused.{fault_is_refusal}
use Rattle.nm_c.proofs.calls.progress.Goals as goal

pub returns-clause-ran : goal.returns-clause-ran
returns-clause-ran c =
    (c.in_ok-moved.ensures.turned, c.turned.ensures ∙ ap code_of_turn c.in_ok-moved.ensures.moved)

pub returns-in_err-moved-clause-refused : goal.returns-in_err-moved-clause-refused
returns-in_err-moved-clause-refused c =
    let p = err_from_is_err_and c.from_residual.result c.from_residual.ensures.1 in
    rw (p.1, p.2) (record {
      kind = fault_is_refusal _;
      same = λ ne. elim c.in_err-moved.ensures.cause [
        | inl memory ↦ absurd (ne (ap code_of_fault memory))
        | inr failed ↦ failed.2
      ];
    })

pub returns-in_err-moved-clause-cause : goal.returns-in_err-moved-clause-cause
returns-in_err-moved-clause-cause c =
    let p = err_from_is_err_and c.from_residual.result c.from_residual.ensures.1 in
    rw (p.1, p.2) (elim c.in_err-moved.ensures.cause [
      | inl memory ↦ inl (ap code_of_fault memory)
      | inr failed ↦ inr (ap code_of_fault failed.0, failed.1)
    ])
