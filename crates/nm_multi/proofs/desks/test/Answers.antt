use Rattle.std.proofs.Common.{refl}
use Rattle.nm_multi.specs.Acts.{state_of}
use Rattle.nm_multi.proofs.Results.{tested}
use Rattle.nm_multi.proofs.desks.test.Goals as goal

pub returns-in-Ok : goal.returns-in-Ok
returns-in-Ok c =
    let e = c.test.ensures in
    (tested _ _ _ (state_of c.args.rank.now) e.no_such.0 e.state c.in-Ok.is, refl)

pub returns-in-Err : goal.returns-in-Err
returns-in-Err c = let e = c.test.ensures in (e.no_such.1 c.in-Err.is, refl)
