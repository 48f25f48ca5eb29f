-- The moves of one rank are moves that it may make.
use Rattle.std.proofs.Common.{◌≡◌, Some, sym, ◌∙◌, ap}
use Rattle.std.specs.Prelude.{option_copied}
use Rattle.nm_explored.specs.Successors.{spot_in}
use Rattle.nm_explored.proofs.KeptLemmas.{acts, turn_of}
use Rattle.nm_explored.proofs.TellLemmas.{ok_weaker}
use Rattle.nm_explored.proofs.chosen.enough.Goals as goal

pub returns-in-Some-rank-clause-only : goal.returns-in-Some-rank-clause-only
returns-in-Some-rank-clause-only c few short =
    let v = spot_in c.args.view.table.now c.args.view.ids.now in
    let here : v c.in-Some.i ≡ Some c.in-Some-rank.rank.now =
    sym c.rank.ensures ∙ ap (λ o. option_copied o) c.in-Some-rank.is in
    ok_weaker _ _
    (λ turns each t at.
    turn_of c.args.view.eager c.args.ranks c.args.view.lines.now v c.in-Some.i c.in-Some-rank.rank.now t here
    (acts c.args.view.eager c.args.ranks c.args.view.lines.now v c.in-Some.i c.in-Some-rank.rank.now t (each t at)))
    c.acts.result (c.acts.ensures.only few short)
