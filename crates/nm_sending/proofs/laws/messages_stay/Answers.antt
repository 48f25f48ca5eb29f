-- Each by the events.
use Rattle.nm_sending.proofs.OtherLemmas.{others_stay}
use Rattle.nm_sending.proofs.laws.messages_stay.Goals as goal

pub returns-clause-others : goal.returns-clause-others
returns-clause-others c = others_stay
