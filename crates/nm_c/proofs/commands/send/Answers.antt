-- The number that is above its limit.
use Rattle.std.proofs.Common.{inl, inr}
use Rattle.std.proofs.lemmas.Result.{err_from_is_err_and}
use Rattle.nm_c.proofs.commands.send.Goals as goal

pub returns-in_err-q-clause-cause : goal.returns-in_err-q-clause-cause
returns-in_err-q-clause-cause c =
    let p = err_from_is_err_and c.from_residual.result c.from_residual.ensures.1 in
    rw (p.1, p.2) (inl (inl c.in_err-q.ensures.err))

pub returns-in_err-to-clause-cause : goal.returns-in_err-to-clause-cause
returns-in_err-to-clause-cause c =
    let p = err_from_is_err_and c.from_residual-in_err-to.result c.from_residual-in_err-to.ensures.1 in
    rw (p.1, p.2) (inl (inr (inl c.in_err-to.ensures.err)))

pub returns-in_err-tag-clause-cause : goal.returns-in_err-tag-clause-cause
returns-in_err-tag-clause-cause c =
    let p = err_from_is_err_and c.from_residual-in_err-tag.result c.from_residual-in_err-tag.ensures.1 in
    rw (p.1, p.2) (inl (inr (inr (inl c.in_err-tag.ensures.err))))

pub returns-in_err-ctx-clause-cause : goal.returns-in_err-ctx-clause-cause
returns-in_err-ctx-clause-cause c =
    let p = err_from_is_err_and c.from_residual-in_err-ctx.result c.from_residual-in_err-ctx.ensures.1 in
    rw (p.1, p.2) (inl (inr (inr (inr (inl c.in_err-ctx.ensures.err)))))

pub returns-in_err-check_length-clause-cause : goal.returns-in_err-check_length-clause-cause
returns-in_err-check_length-clause-cause c =
    let p = err_from_is_err_and c.from_residual-in_err-check_length.result
    c.from_residual-in_err-check_length.ensures.1 in
    rw (p.1, p.2) (inl (inr (inr (inr (inr c.in_err-check_length.ensures.err)))))

pub returns-in_err-body-clause-cause : goal.returns-in_err-body-clause-cause
returns-in_err-body-clause-cause c =
    let p = err_from_is_err_and c.from_residual-in_err-body.result c.from_residual-in_err-body.ensures.1 in
    rw p.1 (inr p.2)
