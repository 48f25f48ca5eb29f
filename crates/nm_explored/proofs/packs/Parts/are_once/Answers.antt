-- A set of parts has each once.
use Rattle.std.proofs.Common.{List, subst}
use Rattle.nm_outcomes.specs.declared.spots.deeds.Part.{Part}
use Rattle.nm_search.specs.Lists.{StandOnce}
use Rattle.nm_explored.proofs.PackLemmas.{parts_once}
use Rattle.nm_explored.proofs.packs.Parts.are_once.Goals as goal

pub returns : goal.returns
returns c =
    subst (λ (xs : List Part). StandOnce xs) c.self.view_is
    (parts_once c.self.inside.items.keys c.as_slice-items.ensures.unique)
