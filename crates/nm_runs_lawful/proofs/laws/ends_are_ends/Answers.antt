-- The law is a lemma.
use Rattle.nm_runs_lawful.proofs.EndLemmas as lemmas
use Rattle.nm_runs_lawful.proofs.laws.ends_are_ends.Goals as goal

pub returns : goal.returns
returns c = lemmas.ends_are_ends
