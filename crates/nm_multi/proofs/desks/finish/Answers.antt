use Rattle.std.proofs.Common.{ap}
use Rattle.std.specs.Prelude.{Err}
use Rattle.nm_multi.proofs.Results.{unfinished}
use Rattle.nm_multi.proofs.desks.finish.Goals as goal

pub returns-in-Ok : goal.returns-in-Ok
returns-in-Ok c = c.in-Ok.ensures.finishes

pub returns-in-Err-NoSuch : goal.returns-in-Err-NoSuch
returns-in-Err-NoSuch c =
    let e = c.in-Err-NoSuch.ensures in (e.no_such.1 (ap Err c.in-Err-NoSuch.field-0-is), e.err)

pub returns-in-Err-NotComplete : goal.returns-in-Err-NotComplete
returns-in-Err-NotComplete c =
    let e = c.in-Err-NotComplete.ensures in
    (unfinished _ _ _ e.no_such.0 e.not_complete (ap Err c.in-Err-NotComplete.field-0-is), e.err)
