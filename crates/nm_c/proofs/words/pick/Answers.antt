-- It is a number, and not any.
use Rattle.std.proofs.lemmas.Result.{err_from_is_err_and}
use Rattle.nm_c.proofs.Reasons.{no_pick}
use Rattle.nm_c.proofs.words.pick.Goals as goal

pub returns-in_err-one-clause-none : goal.returns-in_err-one-clause-none
returns-in_err-one-clause-none c =
    let p = err_from_is_err_and c.from_residual.result c.from_residual.ensures.1 in
    rw (p.1, p.2) (no_pick c.args.number _ c.if-number-eq-ANY.false c.in_err-one.ensures.err.0
    c.in_err-one.ensures.err.1)
