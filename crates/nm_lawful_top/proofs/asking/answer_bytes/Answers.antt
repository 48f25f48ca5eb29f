-- A script and answers, with the line between.
use Rattle.std.proofs.Common.{arith}
use Rattle.std.proofs.lemmas.Result.{IfOk-weaker}
use Rattle.nm_shell.proofs.PartLemmas.{parts_short}
use Rattle.nm_lawful_top.specs.Answers.{IsDueIn, IsDueTo}
use Rattle.nm_lawful_top.proofs.InputLemmas.{answered_to}
use Rattle.nm_lawful_top.proofs.asking.answer_bytes.Goals as goal

pub answer_parts-requires : goal.answer_parts-requires
answer_parts-requires c =
    let short = (parts_short c.args.bytes.now c.in-Some.front.now c.in-Some.text.now c.in-Some.ensures).1 in
    omega (arith, short)

pub returns-in-Some : goal.returns-in-Some
returns-in-Some c =
    IfOk-weaker c.answer_parts.result (IsDueIn c.args.asked c.in-Some.front.now c.in-Some.text.now)
    (IsDueTo c.args.asked c.args.bytes.now)
    (answered_to c.args.asked c.args.bytes.now c.in-Some.front.now c.in-Some.text.now
    c.in-Some.ensures)
    c.answer_parts.ensures
