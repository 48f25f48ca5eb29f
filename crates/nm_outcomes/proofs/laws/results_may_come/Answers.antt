-- The law is a lemma.
use Rattle.nm_outcomes.proofs.EndLemmas as lemmas
use Rattle.nm_outcomes.proofs.laws.results_may_come.Goals as goal

pub returns : goal.returns
returns c = lemmas.results_may_come
