-- The law is a lemma.
use Rattle.nm_script.proofs.LimitLemmas.{flood_passes}
use Rattle.nm_script.proofs.flood.laws.floods_name_their_messages.Goals as goal

pub returns : goal.returns
returns c = flood_passes
