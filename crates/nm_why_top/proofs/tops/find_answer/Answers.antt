-- Words that are taken ask for one thing.
use Rattle.std.proofs.Common.{◌≡◌, ◌∙◌, Option, None, Some, sym, map, string_bytes, subst}
use Rattle.std.specs.Option.{IfSome}
use Rattle.nm_explored.proofs.TellLemmas.{ok_weaker}
use Rattle.nm_outcomes_top.specs.declared.words.Asked.{Asked}
use Rattle.nm_why_top.specs.Answers.{IsAsked}
use Rattle.nm_why_top.proofs.AnswerLemmas.{answered_words}
use Rattle.nm_why_top.proofs.tops.find_answer.Goals as goal

pub returns-in-Some-clause-answer : goal.returns-in-Some-clause-answer
returns-in-Some-clause-answer g c =
    let words = map string_bytes c.args.words.now in
    let taken = subst (λ (f : Option Asked). IfSome f (IsAsked words)) c.in-Some.is c.in_ok-asked.ensures.taken in
    ok_weaker _ _
    (answered_words words (g.S.Source.left c.args.source.now) (g.S.Source.faults c.args.source.now)
    (g.S.Source.faults c.answer_source.new.source) c.in-Some.asked taken)
    c.answer_source.result c.answer_source.ensures

pub returns-in-Some-clause-untouched : goal.returns-in-Some-clause-untouched
returns-in-Some-clause-untouched g c not_asked =
    let words = map string_bytes c.args.words.now in
    absurd (not_asked c.in-Some.asked
    (subst (λ (f : Option Asked). IfSome f (IsAsked words)) c.in-Some.is c.in_ok-asked.ensures.taken))

pub returns-in-None-clause-answer : goal.returns-in-None-clause-answer
returns-in-None-clause-answer g c asked taken =
    let both : None ≡ Some asked = sym c.in-None.is ∙ c.in_ok-asked.ensures.takes asked taken in cc
