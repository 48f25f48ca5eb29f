-- The moves of a rank are moves that it may make.
use Rattle.std.proofs.Common.{◌≡◌, Some, sym, ◌∙◌, ap}
use Rattle.std.specs.Prelude.{option_copied}
use Rattle.nm_explored.specs.Successors.{spot_in}
use Rattle.nm_explored.specs.Moves.{IsTurn, IsTurnOf}
use Rattle.nm_search.proofs.ListLemmas.{only_weaker}
use Rattle.nm_explored.proofs.KeptLemmas.{turn_of}
use Rattle.nm_explored.proofs.choices.moves.push_rank.Goals as goal

pub returns-in_ok-push_moves-clause-only : goal.returns-in_ok-push_moves-clause-only
returns-in_ok-push_moves-clause-only c few short =
    let v = spot_in c.args.view.table.now c.args.view.ids.now in
    let here : v c.args.i ≡ Some c.in-Some.rank.now =
    sym c.rank.ensures ∙ ap (λ o. option_copied o) c.in-Some.is in
    only_weaker (IsTurnOf c.args.view.eager c.args.ranks c.args.view.lines.now v c.args.i c.in-Some.rank.now)
    (IsTurn c.args.view.eager c.args.ranks c.args.view.lines.now v) c.args.turns.now.items
    c.push_moves.new.turns.items
    (λ t is. turn_of c.args.view.eager c.args.ranks c.args.view.lines.now v c.args.i c.in-Some.rank.now t here is)
    (c.in_ok-push_moves.ensures.only few short)
