-- Each by induction over the events.
use Rattle.nm_history.proofs.Right.{right-append, right-claims, right-numbers, right-wholes, right-ends}
use Rattle.nm_history.proofs.protocol.laws.right_events_go_on.Goals as goal

pub returns-clause-more : goal.returns-clause-more
returns-clause-more c = right-append

pub returns-clause-numbers : goal.returns-clause-numbers
returns-clause-numbers c = right-numbers

pub returns-clause-claims : goal.returns-clause-claims
returns-clause-claims c = right-claims

pub returns-clause-wholes : goal.returns-clause-wholes
returns-clause-wholes c = right-wholes

pub returns-clause-ends : goal.returns-clause-ends
returns-clause-ends c = right-ends
