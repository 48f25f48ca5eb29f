-- What a state says.
use Rattle.nm_outcomes.proofs.SaidLemmas.{said}
use Rattle.nm_outcomes.proofs.spots.laws.states_say.Goals as goal

pub returns : goal.returns
returns c = λ lines h spot is. said lines h spot is
