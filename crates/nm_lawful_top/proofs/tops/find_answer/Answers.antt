-- Words that are taken ask for one thing.
use Rattle.std.proofs.Common.{map, string_bytes, sym}
use Rattle.std.proofs.lemmas.Result.{IfOk-weaker}
use Rattle.nm_lawful_top.specs.Answers.{IsDue, IsDueOf}
use Rattle.nm_lawful_top.proofs.InputLemmas.{answered_words}
use Rattle.nm_lawful_top.proofs.tops.find_answer.Goals as goal

pub returns-in-Some-clause-answer : goal.returns-in-Some-clause-answer
returns-in-Some-clause-answer g c =
    IfOk-weaker c.answer_source.result
    (IsDueOf c.in-Some.asked (g.S.Source.left c.args.source.now) (g.S.Source.faults c.args.source.now)
    (g.S.Source.faults c.answer_source.new.source))
    (IsDue (map string_bytes c.args.words.now) (g.S.Source.left c.args.source.now)
    (g.S.Source.faults c.args.source.now) (g.S.Source.faults c.answer_source.new.source))
    (answered_words (map string_bytes c.args.words.now) (g.S.Source.left c.args.source.now)
    (g.S.Source.faults c.args.source.now) (g.S.Source.faults c.answer_source.new.source) c.in-Some.asked
    (sym c.in-Some.ensures))
    c.answer_source.ensures

pub returns-in-None-clause-answer : goal.returns-in-None-clause-answer
returns-in-None-clause-answer g c = sym c.in-None.ensures
