-- The law is a lemma.
use Rattle.nm_outcomes.proofs.PlaceLemmas as lemmas
use Rattle.nm_outcomes.proofs.laws.places_follow.Goals as goal

pub returns : goal.returns
returns c = lemmas.places_follow
