-- A set has each state once.
use Rattle.std.proofs.Common.{List, subst}
use Rattle.nm_search.specs.Lists.{StandOnce}
use Rattle.nm_lawful.specs.Ranks.{RankState}
use Rattle.nm_lawful.proofs.SetLemmas.{states_once}
use Rattle.nm_lawful.proofs.searches.States.as_slice.Goals as goal

pub returns-clause-once : goal.returns-clause-once
returns-clause-once c =
    subst (λ (xs : List (List RankState)). StandOnce xs) c.self.view_is
    (states_once c.self.inside.items.keys c.as_slice.ensures.unique)
