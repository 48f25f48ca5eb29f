-- The state is there.
use Rattle.nm_lawful.proofs.SetLemmas.{state_there}
use Rattle.nm_lawful.proofs.searches.States.add.Goals as goal

pub returns-clause-there : goal.returns-clause-there
returns-clause-there c =
    state_there c.insert_full.new.self.keys c.in_ok-insert_full.field-0.0 c.args.state c.in_ok-insert_full.ensures.stored
