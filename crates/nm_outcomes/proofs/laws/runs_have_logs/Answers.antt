-- The law is a lemma.
use Rattle.nm_outcomes.proofs.LogLemmas as lemmas
use Rattle.nm_outcomes.proofs.laws.runs_have_logs.Goals as goal

pub returns : goal.returns
returns c = lemmas.runs_have_logs
