-- The command is that of these numbers.
use Rattle.std.proofs.Common.{refl, subst}
use Rattle.std.specs.Prelude.{IfErr, IfOk}
use Rattle.std.proofs.lemmas.Result.{err_from_is_err_and}
use Rattle.nm_types.specs.declared.scripts.Command.{Command}
use Rattle.nm_c.specs.Causes.{IsReason}
use Rattle.nm_c.specs.Causes.IsReason.{above}
use Rattle.nm_c.specs.Codes.{HasAnswered}
use Rattle.nm_c.proofs.calls.receive_claimed.Goals as goal

pub returns-clause-ran : goal.returns-clause-ran
returns-clause-ran c =
    subst (λ (x : Command). IfOk c.run.result (HasAnswered x c.args.handle.now c.run.new.handle))
    c.in_ok-command.ensures.ok c.run.ensures.ran

pub returns-clause-cause : goal.returns-clause-cause
returns-clause-cause c =
    subst (λ (x : Command). IfErr c.run.result (IsReason x c.args.handle.now))
    c.in_ok-command.ensures.ok c.run.ensures.cause

pub returns-in_err-command-clause-refused : goal.returns-in_err-command-clause-refused
returns-in_err-command-clause-refused c =
    let p = err_from_is_err_and c.from_residual.result c.from_residual.ensures.1 in
    rw (p.1, p.2) (record { kind = c.in_err-command.ensures.err; same = λ ne. refl })

pub returns-in_err-command-clause-cause : goal.returns-in_err-command-clause-cause
returns-in_err-command-clause-cause c =
    let p = err_from_is_err_and c.from_residual.result c.from_residual.ensures.1 in
    rw (p.1, p.2) (above c.in_err-command.ensures.cause)
