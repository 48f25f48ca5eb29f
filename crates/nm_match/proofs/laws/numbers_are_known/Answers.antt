-- Each clause is a lemma.
use Rattle.nm_match.proofs.NumberLemmas.{messages_numbered, receives_numbered}
use Rattle.nm_match.proofs.laws.numbers_are_known.Goals as goal

pub returns-clause-receive : goal.returns-clause-receive
returns-clause-receive c ranks h number numbers = receives_numbered ranks h numbers number

pub returns-clause-message : goal.returns-clause-message
returns-clause-message c ranks h from n numbers = messages_numbered ranks h numbers from n
