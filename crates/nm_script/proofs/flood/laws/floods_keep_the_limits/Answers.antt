-- The law is a lemma.
use Rattle.nm_script.proofs.LimitLemmas.{flood_is_script}
use Rattle.nm_script.proofs.flood.laws.floods_keep_the_limits.Goals as goal

pub returns : goal.returns
returns c = flood_is_script
