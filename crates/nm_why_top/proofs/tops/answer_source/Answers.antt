-- What was read of the source is answered.
use Rattle.std.proofs.Common.{List, ℕ, subst}
use Rattle.nm_explored.proofs.TellLemmas.{ok_weaker}
use Rattle.nm_why_top.specs.Answers.{IsAnswerIn}
use Rattle.nm_why_top.proofs.AnswerLemmas.{answered}
use Rattle.nm_why_top.proofs.tops.answer_source.Goals as goal

pub returns-in-Ok : goal.returns-in-Ok
returns-in-Ok g c =
    ok_weaker _ _
    (λ answer right. answered c.args.asked (g.S.Source.left c.args.source.now) (g.S.Source.faults c.args.source.now)
    (g.S.Source.faults c.read_up_to.new.source) c.in-Ok.bytes.items c.in-Ok.ensures.bytes answer
    (subst (λ (b : List ℕ). IsAnswerIn c.args.asked b answer) c.deref.ensures.value right))
    c.answer_bytes.result c.answer_bytes.ensures
