-- The law is a lemma.
use Rattle.nm_outcomes.proofs.CallLemmas as lemmas
use Rattle.nm_outcomes.proofs.laws.events_are_due.Goals as goal

pub returns : goal.returns
returns c = lemmas.events_are_due
