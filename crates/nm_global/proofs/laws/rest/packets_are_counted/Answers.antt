-- Each rank by itself.
use Rattle.nm_global.proofs.Rest.{rest_counts}
use Rattle.nm_global.proofs.laws.rest.packets_are_counted.Goals as goal

pub returns : goal.returns
returns c = rest_counts
