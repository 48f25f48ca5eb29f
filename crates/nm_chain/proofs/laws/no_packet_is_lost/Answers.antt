use Rattle.nm_chain.proofs.SequenceLemmas.{somewhere}
use Rattle.nm_chain.proofs.laws.no_packet_is_lost.Goals as goal

pub returns : goal.returns
returns c = somewhere
