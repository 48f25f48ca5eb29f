-- The law is a lemma.
use Rattle.nm_outcomes.proofs.PathLemmas as lemmas
use Rattle.nm_outcomes.proofs.laws.runs_are_paths.Goals as goal

pub returns : goal.returns
returns c = lemmas.runs_are_paths
