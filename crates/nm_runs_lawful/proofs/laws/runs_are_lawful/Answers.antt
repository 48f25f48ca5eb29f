-- The law is a lemma, by the laws of the lines, of the steps and of the ends.
use Rattle.nm_runs_lawful.proofs.LeadLemmas as lemmas
use Rattle.nm_runs_lawful.proofs.laws.runs_are_lawful.Goals as goal

pub returns : goal.returns
returns c =
    lemmas.runs_are_lawful c.commands_stand_at_their_lines.ensures.own c.steps_lead.ensures c.ends_are_ends.ensures
