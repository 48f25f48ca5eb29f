-- The law is a lemma.
use Rattle.nm_outcomes.proofs.MoveLemmas as lemmas
use Rattle.nm_outcomes.proofs.laws.steps_are_moves.Goals as goal

pub returns : goal.returns
returns c = lemmas.steps_are_moves
