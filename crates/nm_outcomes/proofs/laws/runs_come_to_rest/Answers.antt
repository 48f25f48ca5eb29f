-- The law is a lemma.
use Rattle.nm_outcomes.proofs.RestLemmas as lemmas
use Rattle.nm_outcomes.proofs.laws.runs_come_to_rest.Goals as goal

pub returns : goal.returns
returns c = lemmas.runs_come_to_rest
