-- The law is a lemma, by the laws of the lines and of bodies.
use Rattle.nm_listed.proofs.RunLemmas as lemmas
use Rattle.nm_listed.proofs.lawful.records_are_countable.Goals as goal

pub returns : goal.returns
returns c =
    lemmas.records_are_countable c.commands_stand_at_their_lines.ensures.own c.bodies_have_their_length.ensures
