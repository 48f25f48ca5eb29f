-- The law is a lemma, by the law of the lines.
use Rattle.nm_listed.proofs.RunLemmas as lemmas
use Rattle.nm_listed.proofs.lawful.records_are_runs.Goals as goal

pub returns : goal.returns
returns c = lemmas.records_are_runs c.commands_stand_at_their_lines.ensures.own
