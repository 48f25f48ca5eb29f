-- What is pushed is there.
use Rattle.nm_why.proofs.ListLemmas.{has_push, keeps_push}
use Rattle.nm_why.proofs.candidates.push.Goals as goal

pub returns-clause-kept : goal.returns-clause-kept
returns-clause-kept c = keeps_push _ _ _ c.in_ok-push.ensures.items

pub returns-clause-there : goal.returns-clause-there
returns-clause-there c = has_push _ _ _ c.in_ok-push.ensures.items
