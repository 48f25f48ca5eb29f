-- The first end at which a rank waits.
use Rattle.std.proofs.Common.{◌∙◌, List, ℕ, refl, subst, sym}
use Rattle.std.proofs.lemmas.List.{take_all}
use Rattle.std.proofs.lemmas.Option.{slice_get_read}
use Rattle.nm_explored.specs.declared.choices.moves.Turn.{Turn}
use Rattle.nm_explored.specs.declared.ends.End.{End}
use Rattle.nm_explored.specs.Met.{IsWay}
use Rattle.nm_why_top.specs.Answers.{NoneHangs}
use Rattle.nm_why_top.proofs.FateLemmas.{quiet_more, stuck_at}
use Rattle.nm_why_top.proofs.asking.stuck_states.Goals as goal

pub returns-then-is_hung-clause-some : goal.returns-then-is_hung-clause-some
returns-then-is_hung-clause-some c = λ lines ways.
    let end = c.end-item.result in
    stuck_at c.args.shape lines c.args.ends.now end _ ways (
      c.loop-end.end-index,
      slice_get_read c.args.ends.now _ c.loop-end.end-index end refl c.loop-end-test.true c.end-item.is,
    )
    (sym c.is_hung.ensures ∙ c.if-is_hung.true) (λ state way.
    c.in_ok-states_after.ensures.way c.args.shape.eager lines state
    (subst (λ (n : ℕ). IsWay c.args.shape.eager n lines c.as_slice.result.now state) (sym c.ranks.ensures.value)
    (subst (λ (turns : List Turn). IsWay c.args.shape.eager c.args.shape.ranks lines turns state)
    (sym c.as_slice.ensures.value) way)))

pub loop-end-preserved : goal.loop-end-preserved
loop-end-preserved c =
    quiet_more c.args.ends.now c.loop-end.end-index c.end-item.result c.loop-end-test.true c.end-item.is
    (sym c.is_hung.ensures ∙ c.if-is_hung.false) c.loop-end.invariant

pub returns-clause-none : goal.returns-clause-none
returns-clause-none c = λ is.
    subst (λ (ends : List End). NoneHangs ends)
    (take_all c.loop-end.end-index c.args.ends.now c.loop-end-test.false) c.loop-end.invariant
