-- Words that are taken ask for one thing.
use Rattle.std.proofs.Common.{Option, map, string_bytes, subst}
use Rattle.std.specs.Option.{IfSome}
use Rattle.nm_outcomes_top.specs.OptionWords.{IsTaken}
use Rattle.nm_outcomes_top.specs.declared.words.Asked.{Asked}
use Rattle.nm_explored.proofs.TellLemmas.{ok_weaker}
use Rattle.nm_outcomes_top.proofs.InputLemmas.{answered_words, no_line, one_of}
use Rattle.nm_outcomes_top.proofs.tops.find_answer.Goals as goal

pub returns-in-Some-clause-answer : goal.returns-in-Some-clause-answer
returns-in-Some-clause-answer g c =
    let words = map string_bytes c.args.words.now in
    let found = c.in_ok-asked.field-0 in
    let taken = subst (λ (f : Option Asked). IfSome f (IsTaken words)) c.in-Some.is c.in_ok-asked.ensures.taken in
    let takes = c.in_ok-asked.ensures.takes in
    ok_weaker _ _
    (answered_words words (g.S.Source.left c.args.source.now)
    (g.S.Source.faults c.args.source.now) (g.S.Source.faults c.answer_source.new.source) c.in-Some.asked
    taken (λ other also. one_of found other c.in-Some.asked (takes other also) c.in-Some.is))
    c.answer_source.result c.answer_source.ensures

pub returns-in-None-clause-answer : goal.returns-in-None-clause-answer
returns-in-None-clause-answer g c asked taken =
    no_line c.in_ok-asked.field-0 asked c.in-None.is (c.in_ok-asked.ensures.takes asked taken)
