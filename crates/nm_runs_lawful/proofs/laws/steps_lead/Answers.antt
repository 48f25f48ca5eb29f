-- The law is a lemma.
use Rattle.nm_runs_lawful.proofs.EachLemmas as lemmas
use Rattle.nm_runs_lawful.proofs.laws.steps_lead.Goals as goal

pub returns : goal.returns
returns c = lemmas.steps_lead
