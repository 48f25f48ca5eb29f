use Rattle.std.proofs.lemmas.Result.{IfOk-weaker}
use Rattle.nm_cli.proofs.RunLemmas.{script_of_bytes}
use Rattle.nm_cli.proofs.runs.answer_script.Goals as goal

pub returns-in-Ok : goal.returns-in-Ok
returns-in-Ok g c =
    let script = c.in-Ok.script in
    IfOk-weaker c.answer_lines-answer.result _ _
    (script_of_bytes c.args.line.now c.args.bytes.now script.ranks script.lines c.requires.reads c.in-Ok.ensures.taken)
    c.answer_lines-answer.ensures
