-- The law is a lemma.
use Rattle.nm_diagram.proofs.RunLemmas.{arrival_has_arrow}
use Rattle.nm_diagram.proofs.laws.each_message_goes_forward.Goals as goal

pub returns : goal.returns
returns c = arrival_has_arrow
