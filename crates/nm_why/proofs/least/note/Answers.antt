-- A command at which the search gave up is noted.
use Rattle.std.proofs.Common.{inr}
use Rattle.nm_why.proofs.ListLemmas.{has_push, keeps_push}
use Rattle.nm_why.proofs.least.note.Goals as goal

pub returns-in_ok-push-in-Unknown-clause-kept : goal.returns-in_ok-push-in-Unknown-clause-kept
returns-in_ok-push-in-Unknown-clause-kept c = keeps_push _ _ _ c.in_ok-push-in-Unknown.ensures.items

pub returns-in_ok-push-in-Unknown-clause-needed : goal.returns-in_ok-push-in-Unknown-clause-needed
returns-in_ok-push-in-Unknown-clause-needed c = λ yes. inr (has_push _ _ _ c.in_ok-push-in-Unknown.ensures.items)
