-- Nothing left either rank.
use Rattle.std.proofs.Common.{ap}
use Rattle.nm_types.specs.Sizes.{Sizes}
use Rattle.uses.proofs.StepLemmas.{new_ranks}
use Rattle.uses.proofs.rank.messages.two_ranks.Goals as goal

pub returns : goal.returns
returns c =
    new_ranks c.in-Ok.shape c.in_ok-first.first c.in_ok-second.second
    (ap (λ (s : Sizes). s.ranks) c.in-Ok.ensures.ok) c.in_ok-first.ensures c.in_ok-second.ensures
