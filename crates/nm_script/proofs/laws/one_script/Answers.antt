-- Reading gives each script that the bytes spell, and it gives one.
use Rattle.nm_script.proofs.ReadLemmas.{one_script}
use Rattle.nm_script.proofs.laws.one_script.Goals as goal

pub returns : goal.returns
returns c = one_script
