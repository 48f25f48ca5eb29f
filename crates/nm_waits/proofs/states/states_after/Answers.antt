-- One move more.
use Rattle.std.proofs.Common.{◌∙◌, List, ap, sym}
use Rattle.nm_outcomes.specs.RankStates.{Spot}
use Rattle.nm_waits.specs.States.{states_next}
use Rattle.nm_waits.proofs.StateLemmas.{states_all, states_more, states_none, way_states}
use Rattle.nm_waits.proofs.states.states_after.Goals as goal

pub loop-k-init : goal.loop-k-init
loop-k-init c = c.in_ok-states.ensures ∙ states_none c.args.ranks c.args.path.now

pub loop-k-preserved : goal.loop-k-preserved
loop-k-preserved c =
    c.in_ok-follow.ensures
    ∙ ap (λ (states : List Spot). states_next states c.turn_at.result) c.loop-k.invariant
    ∙ sym (states_more c.args.ranks c.args.path.now c.loop-k.k c.turn_at.result c.loop-k-test.true c.turn_at.ensures)

pub returns-clause-by : goal.returns-clause-by
returns-clause-by c = c.loop-k.invariant ∙ states_all c.args.ranks c.args.path.now c.loop-k.k c.loop-k-test.false

pub returns-clause-way : goal.returns-clause-way
returns-clause-way c = λ eager lines state way.
    c.loop-k.invariant ∙ states_all c.args.ranks c.args.path.now c.loop-k.k c.loop-k-test.false
    ∙ way_states eager c.args.ranks lines c.args.path.now state way
