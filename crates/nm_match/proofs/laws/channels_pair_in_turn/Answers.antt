-- The law is a lemma.
use Rattle.nm_match.proofs.InTurnLemmas.{paired_in_turn}
use Rattle.nm_match.proofs.laws.channels_pair_in_turn.Goals as goal

pub returns : goal.returns
returns c = paired_in_turn
