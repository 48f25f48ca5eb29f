-- The law is a lemma, by the law of the lines.
use Rattle.nm_outcomes.proofs.FoundLemmas as lemmas
use Rattle.nm_outcomes.proofs.laws.runs_are_found.Goals as goal

pub returns : goal.returns
returns c = lemmas.runs_are_found c.commands_stand_at_their_lines.ensures.own
