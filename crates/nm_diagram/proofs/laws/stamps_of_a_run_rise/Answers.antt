-- The law is a lemma.
use Rattle.nm_diagram.proofs.StampLemmas.{stamps-rise}
use Rattle.nm_diagram.proofs.laws.stamps_of_a_run_rise.Goals as goal

pub returns : goal.returns
returns c = stamps-rise
