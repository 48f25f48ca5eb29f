-- The lines that were read, each ended, are the bytes.
use Rattle.nm_script.proofs.ReadLemmas.{read_is_written}
use Rattle.nm_script.proofs.laws.read_is_written.Goals as goal

pub returns : goal.returns
returns c = read_is_written
