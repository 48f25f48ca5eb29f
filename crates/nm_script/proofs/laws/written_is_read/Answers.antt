-- The text of a script spells it.
use Rattle.nm_script.proofs.ReadLemmas.{written_is_read}
use Rattle.nm_script.proofs.laws.written_is_read.Goals as goal

pub returns : goal.returns
returns c = written_is_read
