-- The rank holds the same handle.
use Rattle.std.proofs.Common.{ap}
use Rattle.nm_c.specs.Lent.{with_handle}
use Rattle.nm_c.proofs.ends.home_of.Goals as goal

pub returns-in_err-shared-clause-same : goal.returns-in_err-shared-clause-same
returns-in_err-shared-clause-same c = ap (with_handle c.args.rank.now) c.handle-handle.ensures.value

pub returns-clause-same : goal.returns-clause-same
returns-clause-same c = ap (with_handle c.args.rank.now) c.handle-handle.ensures.value
