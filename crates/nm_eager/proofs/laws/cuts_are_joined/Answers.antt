use Rattle.nm_eager.proofs.JoinLemmas.{cut_joined, cut_continues, cut_grouped}
use Rattle.nm_eager.proofs.laws.cuts_are_joined.Goals as goal

pub returns-clause-body : goal.returns-clause-body
returns-clause-body c = cut_joined

pub returns-clause-continues : goal.returns-clause-continues
returns-clause-continues c = cut_continues

pub returns-clause-messages : goal.returns-clause-messages
returns-clause-messages c = cut_grouped
