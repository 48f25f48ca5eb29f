-- The command is that of this number, and is ahead.
use Rattle.std.proofs.Common.{refl, subst}
use Rattle.std.proofs.lemmas.Result.{err_from_is_err_and}
use Rattle.nm_types.specs.declared.scripts.Command.{Command}
use Rattle.nm_handle.specs.Standing.{HasGiven}
use Rattle.nm_c.specs.Causes.IsReason.{above}
use Rattle.nm_c.proofs.Reasons.{by_fault}
use Rattle.nm_c.proofs.Refused.{fault_is_refusal}
use Rattle.nm_c.proofs.calls.wait.Goals as goal

pub returns-clause-ran : goal.returns-clause-ran
returns-clause-ran c = (
  subst (λ (x : Command). HasGiven x c.args.handle.now c.give.new.self) c.in_ok-command.ensures.ok
      c.in_ok-give.ensures.given,
  refl,
)

pub returns-in_err-command-clause-refused : goal.returns-in_err-command-clause-refused
returns-in_err-command-clause-refused c =
    let p = err_from_is_err_and c.from_residual.result c.from_residual.ensures.1 in
    rw (p.1, p.2) (record { kind = c.in_err-command.ensures.err; same = λ ne. refl })

pub returns-in_err-command-clause-cause : goal.returns-in_err-command-clause-cause
returns-in_err-command-clause-cause c =
    let p = err_from_is_err_and c.from_residual.result c.from_residual.ensures.1 in
    rw (p.1, p.2) (above c.in_err-command.ensures.cause)

pub returns-in_err-give-clause-refused : goal.returns-in_err-give-clause-refused
returns-in_err-give-clause-refused c =
    let p = err_from_is_err_and c.from_residual-in_err-give.result c.from_residual-in_err-give.ensures.1 in
    rw (p.1, p.2) (record { kind = fault_is_refusal _; same = λ ne. c.in_err-give.ensures.refused })

pub returns-in_err-give-clause-cause : goal.returns-in_err-give-clause-cause
returns-in_err-give-clause-cause c =
    let p = err_from_is_err_and c.from_residual-in_err-give.result c.from_residual-in_err-give.ensures.1 in
    rw (p.1, p.2) (by_fault _ _ _ _ c.in_ok-command.ensures.ok c.in_err-give.ensures.cause)
