-- The law is a lemma.
use Rattle.nm_outcomes.proofs.SwapLemmas as lemmas
use Rattle.nm_outcomes.proofs.laws.receives_and_messages_swap.Goals as goal

pub returns : goal.returns
returns c = lemmas.receives_and_messages_swap
