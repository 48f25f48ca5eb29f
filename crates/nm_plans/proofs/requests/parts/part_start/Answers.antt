use Rattle.nm_plans.proofs.PartLemmas.{starts_within}
use Rattle.nm_plans.proofs.requests.parts.part_start.Goals as goal

pub returns-clause-inside : goal.returns-clause-inside
returns-clause-inside c =
    rw (c.from.ensures, c.from-2.ensures, c.from-3.ensures)
    (starts_within c.args.parts c.args.k c.args.len c.requires.some c.requires.within)
