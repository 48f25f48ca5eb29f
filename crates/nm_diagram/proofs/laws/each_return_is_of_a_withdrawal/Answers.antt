-- The law is a lemma.
use Rattle.nm_diagram.proofs.ReturnLemmas.{all_returns-are}
use Rattle.nm_diagram.proofs.laws.each_return_is_of_a_withdrawal.Goals as goal

pub returns : goal.returns
returns c = all_returns-are
