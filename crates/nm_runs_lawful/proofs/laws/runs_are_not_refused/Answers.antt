-- The law is a lemma, by the law of the runs.
use Rattle.nm_runs_lawful.proofs.LeadLemmas as lemmas
use Rattle.nm_runs_lawful.proofs.laws.runs_are_not_refused.Goals as goal

pub returns : goal.returns
returns c = lemmas.runs_are_not_refused c.runs_are_lawful.ensures
