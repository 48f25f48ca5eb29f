-- The number that is above its limit.
use Rattle.std.proofs.lemmas.Result.{err_from_is_err_and}
use Rattle.nm_c.proofs.commands.wait.Goals as goal

pub returns-in_err-q-clause-cause : goal.returns-in_err-q-clause-cause
returns-in_err-q-clause-cause c =
    let p = err_from_is_err_and c.from_residual.result c.from_residual.ensures.1 in
    rw (p.1, p.2) c.in_err-q.ensures.err
