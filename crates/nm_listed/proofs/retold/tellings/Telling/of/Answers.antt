-- One turn more.
use Rattle.std.proofs.Common.{◌∙◌, ap, sym}
use Rattle.nm_listed.specs.Tellings.{Telling, told_next}
use Rattle.nm_listed.proofs.TurnLemmas.{way_all, way_next, way_none}
use Rattle.nm_listed.proofs.retold.tellings.Telling.of.Goals as goal

pub loop-k-init : goal.loop-k-init
loop-k-init c = c.in_ok-telling.ensures ∙ way_none c.args.lines.now c.args.ranks c.args.path.now

pub loop-k-preserved : goal.loop-k-preserved
loop-k-preserved c =
    c.in_ok-add.ensures
    ∙ ap (λ (t : Telling). told_next c.args.lines.now t c.turn_at.result) c.loop-k.invariant
    ∙ sym (way_next c.args.lines.now c.args.ranks c.args.path.now c.loop-k.k c.turn_at.result c.loop-k-test.true
    c.turn_at.ensures)

pub returns : goal.returns
returns c =
    c.loop-k.invariant ∙ way_all c.args.lines.now c.args.ranks c.args.path.now c.loop-k.k c.loop-k-test.false
