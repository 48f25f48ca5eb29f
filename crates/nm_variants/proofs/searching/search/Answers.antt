-- What the ends report, whatever the bound.
use Rattle.nm_variants.proofs.searching.search.Goals as goal

pub returns-in-All : goal.returns-in-All
returns-in-All c = c.of_ends.ensures c.args.bound
