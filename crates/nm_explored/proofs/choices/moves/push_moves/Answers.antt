-- The moves of a rank are added, and nothing else.
use Rattle.nm_explored.specs.Successors.{spot_in}
use Rattle.nm_explored.proofs.KeptLemmas.{moves_only}
use Rattle.nm_explored.proofs.choices.moves.push_moves.Goals as goal

pub returns-clause-only : goal.returns-clause-only
returns-clause-only c few short =
    moves_only c.args.view.eager c.args.ranks c.args.view.lines.now
    (spot_in c.args.view.table.now c.args.view.ids.now) c.args.i c.args.rank.now c.args.turns.now.items
    c.push_deeds.new.turns.items c.push_arrivals.new.turns.items c.push_withdrawals.new.turns.items
    (c.in_ok-push_deeds.ensures.only few short) c.in_ok-push_arrivals.ensures.only
    c.in_ok-push_withdrawals.ensures.only
