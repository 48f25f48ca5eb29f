-- The states of all ranks are shown.
use Rattle.nm_explored.proofs.searches.Search.expand.Goals as goal

pub returns-clause-expanded : goal.returns-clause-expanded
returns-clause-expanded c few made =
    c.expand_from.ensures.expanded few (c.in_ok-all.ensures.shows (λ k ids here. (made.sound k ids here).low)) made

pub returns-clause-made : goal.returns-clause-made
returns-clause-made c few short inside made =
    c.expand_from.ensures.made few short
    (c.in_ok-all.ensures.shows (λ k ids here. (made.sound k ids here).low)) inside made

pub returns-clause-back : goal.returns-clause-back
returns-clause-back c few short inside made =
    c.expand_from.ensures.back few short
    (c.in_ok-all.ensures.shows (λ k ids here. (made.sound k ids here).low)) inside made
