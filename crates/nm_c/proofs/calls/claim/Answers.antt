-- The command is that of these numbers, and what it answers is told.
use Rattle.std.proofs.Common.{refl, subst}
use Rattle.std.proofs.lemmas.Result.{err_from_is_err_and}
use Rattle.nm_types.specs.declared.scripts.Command.{Command}
use Rattle.nm_c.specs.Causes.IsReason.{above}
use Rattle.nm_c.specs.Codes.{HasAnswered}
use Rattle.nm_c.proofs.Reasons.{of_same}
use Rattle.nm_c.proofs.calls.claim.Goals as goal

pub returns-clause-ran : goal.returns-clause-ran
returns-clause-ran c = record {
  answered = subst (λ (x : Command). HasAnswered x c.args.handle.now c.run.new.handle c.in_ok-code.code)
      c.in_ok-command.ensures.ok c.in_ok-code.ensures.ran;
  status = c.show.ensures;
}

pub returns-in_err-command-clause-refused : goal.returns-in_err-command-clause-refused
returns-in_err-command-clause-refused c =
    let p = err_from_is_err_and c.from_residual.result c.from_residual.ensures.1 in
    rw (p.1, p.2) (record { kind = c.in_err-command.ensures.err; same = λ ne. refl })

pub returns-in_err-command-clause-cause : goal.returns-in_err-command-clause-cause
returns-in_err-command-clause-cause c =
    let p = err_from_is_err_and c.from_residual.result c.from_residual.ensures.1 in
    rw (p.1, p.2) (record { reason = above c.in_err-command.ensures.cause; status = refl })

pub returns-in_err-code-clause-refused : goal.returns-in_err-code-clause-refused
returns-in_err-code-clause-refused c =
    let p = err_from_is_err_and c.from_residual-in_err-code.result c.from_residual-in_err-code.ensures.1 in
    rw (p.1, p.2) c.in_err-code.ensures.refused

pub returns-in_err-code-clause-cause : goal.returns-in_err-code-clause-cause
returns-in_err-code-clause-cause c =
    let p = err_from_is_err_and c.from_residual-in_err-code.result c.from_residual-in_err-code.ensures.1 in
    rw (p.1, p.2) (record {
      reason = of_same _ _ _ _ c.in_ok-command.ensures.ok c.in_err-code.ensures.cause;
      status = refl;
    })
