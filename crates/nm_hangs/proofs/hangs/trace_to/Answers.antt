-- The record of the way to a state at which a rank is stuck is that of a run that hangs.
use Rattle.std.proofs.Common.{List, ap, subst, sym, ◌∙◌}
use Rattle.std.specs.Prelude.{is_none}
use Rattle.std.specs.List.{list_all}
use Rattle.nm_report.specs.Told.{RankTold}
use Rattle.nm_explored.specs.declared.choices.moves.Turn.{Turn}
use Rattle.nm_explored.specs.Met.{IsWay}
use Rattle.nm_explored.specs.Stores.{states_in}
use Rattle.nm_explored.proofs.TellLemmas.{ok_weaker}
use Rattle.nm_listed.specs.Ends.{IsEndWay}
use Rattle.nm_listed.proofs.ToldLemmas.{done_by_ends}
use Rattle.nm_hangs.proofs.HangLemmas.{stuck_there}
use Rattle.nm_hangs.proofs.hangs.trace_to.Goals as goal
use Rattle.nm_hangs.proofs.hangs.trace_to.Goals.{After-as_slice}

-- the way to it
way : (c : After-as_slice) → IsEndWay c.args.shape c.args.script.now.lines c.as_slice.result.now
way c =
    let at = c.requires.stuck in
    let lines = c.args.script.now.lines in
    let stuck = stuck_there c.args.shape.eager c.args.shape.ranks lines c.args.search.now c.args.state c.requires.made
    at in (
      states_in c.args.search.now.table at.0,
      subst (λ (ts : List Turn). IsWay c.args.shape.eager c.args.shape.ranks lines ts
          (states_in c.args.search.now.table at.0)) (sym c.as_slice.ensures.value)
          (c.in_ok-path.ensures c.args.shape.eager c.args.shape.ranks lines c.requires.back at.0 at.1),
      stuck.rest,
    )

pub retold-requires-clause-way : goal.retold-requires-clause-way
retold-requires-clause-way c = way (goal.at.retold-requires-clause-way c).After-as_slice

pub returns : goal.returns
unfolding way
returns c =
    let end = way (goal.at.returns c).After-as_slice in
    let told = c.in_ok-run.ensures end.0 end.1 end.2 in
    let stuck = stuck_there c.args.shape.eager c.args.shape.ranks c.args.script.now.lines c.args.search.now
    c.args.state c.requires.made c.requires.stuck in
    ok_weaker _ _
    (λ trace is. record {
      run = c.in_ok-run.run';
      lawful = told.0;
      hung = told.0.ended ∙ done_by_ends c.in_ok-run.run'.ranks
          ∙ ap (λ (ts : List RankTold). list_all (λ (rank : RankTold). is_none rank.waits) ts) told.1 ∙ stuck.waits;
      trace_is = is;
    }) c.trace.result c.trace.ensures
