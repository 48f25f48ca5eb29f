-- What was read of the source is answered.
use Rattle.std.proofs.Common.{List, ℕ, subst}
use Rattle.std.proofs.lemmas.Result.{IfOk-weaker}
use Rattle.nm_lawful_top.specs.Answers.{IsDueOf, IsDueTo}
use Rattle.nm_lawful_top.proofs.InputLemmas.{answered}
use Rattle.nm_lawful_top.proofs.tops.answer_source.Goals as goal

pub returns-in-Ok : goal.returns-in-Ok
returns-in-Ok g c =
    IfOk-weaker c.answer_bytes.result _
    (IsDueOf c.args.asked (g.S.Source.left c.args.source.now) (g.S.Source.faults c.args.source.now)
    (g.S.Source.faults c.read_up_to.new.source))
    (λ answer right. answered c.args.asked (g.S.Source.faults c.args.source.now)
    (g.S.Source.faults c.read_up_to.new.source) c.in-Ok.bytes.items (g.S.Source.left c.args.source.now)
    c.in-Ok.ensures.bytes answer
    (subst (λ (b : List ℕ). IsDueTo c.args.asked b answer) c.deref.ensures.value right))
    c.answer_bytes.ensures
