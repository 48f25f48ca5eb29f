-- A rank at rest is held up, and no message is under way to it.
use Rattle.std.proofs.Common.{◌≡◌, true, false, Some, sym, ◌∙◌, subst, arith}
use Rattle.std.proofs.lemmas.Bool.{false≢true}
use Rattle.nm_types.proofs.OptionLemmas.{same_some}
use Rattle.nm_outcomes.specs.RankStates.{Spot}
use Rattle.nm_explored.specs.Rests.{IsHeldUp}
use Rattle.nm_explored.specs.Successors.{spot_in}
use Rattle.nm_explored.proofs.RestedLemmas.{nothing_rests}
use Rattle.nm_explored.proofs.ends.is_at_rest.Goals as goal
use Rattle.nm_explored.proofs.ends.is_at_rest.Goals.{then-is_held_up, else-is_held_up}

pub returns-else-has_no_message-clause-rests : goal.returns-else-has_no_message-clause-rests
returns-else-has_no_message-clause-rests c rest =
    elim c.if-is_held_up.branch [
      | then-is_held_up w ↦ w.value-is ∙ w.has_no_message.ensures.none rest.messages
      | else-is_held_up w ↦
          absurd (false≢true (sym w.if-is_held_up.false
          ∙ c.is_held_up.ensures.held (rest.held c.in-Some.rank.now (sym c.in-Some.ensures))))
    ]

-- .. and the other way round
pub returns-then-has_no_message-clause-only : goal.returns-then-has_no_message-clause-only
returns-then-has_no_message-clause-only c so =
    let here : spot_in c.args.view.table.now c.args.view.ids.now c.args.i ≡ Some c.in-Some.rank.now =
    sym c.in-Some.ensures in
    elim c.if-is_held_up.branch [
      | then-is_held_up w ↦ record {
        held = λ spot there.
            subst (λ (x : Spot). IsHeldUp c.args.view.lines.now
            (spot_in c.args.view.table.now c.args.view.ids.now) c.args.i x)
            (same_some c.in-Some.rank.now spot (sym here ∙ there))
            (c.is_held_up.ensures.only w.if-is_held_up.true);
        messages = w.has_no_message.ensures.only (sym w.value-is ∙ c.if-has_no_message.true);
        free = c.has_no_withdrawal.ensures.only so here;
      }
      | else-is_held_up w ↦
          let bad : false ≡ true = grind (arith, w.value-is, w.if-is_held_up.false, c.if-has_no_message.true) in
          absurd (false≢true bad)
    ]

pub returns-in-None-clause-only : goal.returns-in-None-clause-only
returns-in-None-clause-only c so =
    nothing_rests c.args.ranks c.args.view.lines.now (spot_in c.args.view.table.now c.args.view.ids.now) c.args.i
    (sym c.in-None.ensures)
