-- The law is a lemma.
use Rattle.nm_runs_lawful.proofs.TellLemmas as lemmas
use Rattle.nm_runs_lawful.proofs.laws.ranks_are_told.Goals as goal

pub returns : goal.returns
returns c = lemmas.ranks_are_told
