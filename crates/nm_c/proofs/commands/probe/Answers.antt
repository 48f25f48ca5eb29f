-- The number that is above its limit.
use Rattle.std.proofs.Common.{inl, inr}
use Rattle.std.proofs.lemmas.Result.{err_from_is_err_and}
use Rattle.nm_c.proofs.commands.probe.Goals as goal

pub returns-in_err-from-clause-cause : goal.returns-in_err-from-clause-cause
returns-in_err-from-clause-cause c =
    let p = err_from_is_err_and c.from_residual.result c.from_residual.ensures.1 in
    rw (p.1, p.2) (inl c.in_err-from.ensures.none)

pub returns-in_err-tag-clause-cause : goal.returns-in_err-tag-clause-cause
returns-in_err-tag-clause-cause c =
    let p = err_from_is_err_and c.from_residual-in_err-tag.result c.from_residual-in_err-tag.ensures.1 in
    rw (p.1, p.2) (inr (inl c.in_err-tag.ensures.none))

pub returns-in_err-ctx-clause-cause : goal.returns-in_err-ctx-clause-cause
returns-in_err-ctx-clause-cause c =
    let p = err_from_is_err_and c.from_residual-in_err-ctx.result c.from_residual-in_err-ctx.ensures.1 in
    rw (p.1, p.2) (inr (inr c.in_err-ctx.ensures.err))
