-- The law is a lemma.
use Rattle.nm_diagram.proofs.ArrowLemmas.{all_arrows-are}
use Rattle.nm_diagram.proofs.laws.each_arrow_is_of_a_message.Goals as goal

pub returns : goal.returns
returns c = all_arrows-are
