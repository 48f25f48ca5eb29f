-- The moves of a rank's next command are there, and nothing else.
use Rattle.std.proofs.Common.{◌≡◌}
use Rattle.nm_outcomes.specs.declared.spots.deeds.Deed.{Deed}
use Rattle.nm_explored.specs.declared.choices.moves.Move.TheVariants.{Act}
use Rattle.nm_explored.specs.declared.choices.moves.Turn.{Turn}
use Rattle.nm_explored.specs.Successors.{spot_in}
use Rattle.nm_explored.specs.Moves.{IsAct}
use Rattle.nm_search.proofs.ListLemmas.{has_nothing, or_more}
use Rattle.nm_explored.proofs.chosen.acts.Goals as goal

pub returns-clause-only : goal.returns-clause-only
returns-clause-only c few short t at =
    or_more
    (λ (t : Turn). (d : Deed) × (record { rank = c.args.i; by = Act d } ≡ t)
    × IsAct c.args.view.eager c.args.view.lines.now (spot_in c.args.view.table.now c.args.view.ids.now) c.args.i
    c.args.rank.now d) c.new-turns.result.items c.push_deeds.new.turns.items
    (λ x there. absurd (has_nothing c.new-turns.result.items x c.new-turns.ensures.items there))
    (c.in_ok-push_deeds.ensures.only few short) t at
