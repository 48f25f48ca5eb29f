-- The law is a lemma.
use Rattle.nm_outcomes.proofs.LogLemmas as lemmas
use Rattle.nm_outcomes.proofs.laws.logs_deliver.Goals as goal

pub returns : goal.returns
returns c = lemmas.logs_deliver
