-- From the ends to the run.
use Rattle.nm_channels.proofs.LongMessage.{is_run}
use Rattle.nm_channels.proofs.worked_channels.ends_are_a_run.Goals as goal

pub returns : goal.returns
returns c = is_run
