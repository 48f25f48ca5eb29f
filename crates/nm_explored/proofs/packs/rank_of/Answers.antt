-- One part more.
use Rattle.std.proofs.Common.{Option, ◌∙◌, ap}
use Rattle.std.specs.Option.{option_map_or}
use Rattle.nm_outcomes.specs.declared.spots.deeds.Part.{Part}
use Rattle.nm_outcomes.specs.Parts.{with_part}
use Rattle.nm_explored.proofs.PackLemmas.{spot_next}
use Rattle.nm_explored.proofs.packs.rank_of.Goals as goal

pub loop-number-preserved : goal.loop-number-preserved
loop-number-preserved c =
    spot_next c.args.parts.now c.args.row.now c.loop-number.number-index _ c.loop-number.rank c.put.new.rank
    c.loop-number-test.true c.loop-number.invariant
    (c.in_ok-put.ensures
    ∙ ap (λ (o : Option Part). option_map_or (with_part c.loop-number.rank) o c.loop-number.rank) c.part.ensures)
