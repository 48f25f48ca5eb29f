-- A script and a report, with the line between.
use Rattle.nm_explored.proofs.TellLemmas.{ok_weaker}
use Rattle.nm_outcomes_top.proofs.InputLemmas.{answered_to, input_among}
use Rattle.nm_outcomes_top.proofs.tops.answer_pair.Goals as goal

pub returns-in-Some : goal.returns-in-Some
returns-in-Some c =
    ok_weaker _ _
    (λ answer right. answered_to c.args.asked c.args.bytes.now c.in-Some.front.now c.in-Some.report.now
    (input_among c.args.asked.question c.args.bytes.now c.in-Some.front.now c.in-Some.report.now c.requires.among
    c.in-Some.ensures) answer right)
    c.answer_parts.result c.answer_parts.ensures
