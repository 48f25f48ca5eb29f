use Rattle.std.proofs.lemmas.Result.{err_from_is_err_and}
use Rattle.nm_check_rank.proofs.paired.tables.Tables.of.Goals as goal

pub returns-in_err-asked : goal.returns-in_err-asked
returns-in_err-asked c =
    let failed = err_from_is_err_and c.from_residual-in_err-asked.result c.from_residual-in_err-asked.ensures.1 in
    rw failed.1 tt
