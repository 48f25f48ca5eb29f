-- From each two ranks to all of them.
use Rattle.nm_channels.proofs.Run.{all_settle_by}
use Rattle.nm_channels.proofs.laws.settled.ends_make_a_run_by.Goals as goal

pub returns : goal.returns
returns c = all_settle_by
