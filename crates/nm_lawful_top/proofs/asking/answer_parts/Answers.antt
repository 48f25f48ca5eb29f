-- The script that the bytes spell has an answer.
use Rattle.std.proofs.lemmas.Result.{IfOk-weaker}
use Rattle.nm_lawful_top.specs.Answers.{IsDueFor, IsDueIn}
use Rattle.nm_lawful_top.proofs.InputLemmas.{answered_in}
use Rattle.nm_lawful_top.proofs.asking.answer_parts.Goals as goal

pub returns-in-Ok : goal.returns-in-Ok
returns-in-Ok c =
    IfOk-weaker c.answer_script.result
    (IsDueFor c.args.asked c.in-Ok.script.ranks c.in-Ok.script.lines c.args.text.now)
    (IsDueIn c.args.asked c.args.bytes.now c.args.text.now)
    (answered_in c.args.asked c.args.bytes.now c.args.text.now c.in-Ok.script.ranks c.in-Ok.script.lines c.in-Ok.ensures.taken)
    c.answer_script.ensures
