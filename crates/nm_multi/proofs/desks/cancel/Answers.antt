use Rattle.std.proofs.Common.{ap}
use Rattle.std.specs.Prelude.{Err}
use Rattle.nm_multi.proofs.desks.cancel.Goals as goal

pub returns-in-Ok-clause-acts : goal.returns-in-Ok-clause-acts
returns-in-Ok-clause-acts c = c.in-Ok.ensures.cancels

pub returns-in-Err-NoSuch-clause-acts : goal.returns-in-Err-NoSuch-clause-acts
returns-in-Err-NoSuch-clause-acts c =
    let e = c.in-Err-NoSuch.ensures in (e.no_such.1 (ap Err c.in-Err-NoSuch.field-0-is), e.err)
