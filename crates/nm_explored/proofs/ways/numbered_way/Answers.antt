-- The number of the move, and of the state before.
use Rattle.std.proofs.Common.{Some, refl, ◌∙◌, ap}
use Rattle.nm_types.proofs.ListLemmas.{place_below}
use Rattle.nm_outcomes.specs.declared.spots.deeds.Part.{Part}
use Rattle.nm_explored.proofs.WayLemmas.{way_is}
use Rattle.nm_explored.proofs.ways.numbered_way.Goals as goal

pub returns-clause-way : goal.returns-clause-way
returns-clause-way c =
    way_is c.number.new.self
    (record { before = c.in_ok-before.before; by = c.in_ok-by.by; rank = c.args.way.rank }) c.args.way
    (c.in_ok-by.ensures.there ∙ ap (λ (p : Part). Some p) c.part_of.ensures) c.in_ok-before.ensures refl

pub returns-clause-known : goal.returns-clause-known
returns-clause-known c = place_below c.number.new.self c.in_ok-by.by c.part_of.result c.in_ok-by.ensures.there
