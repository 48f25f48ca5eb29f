use Rattle.std.proofs.Common.{Option, ◌∙◌, ap, sym, take}
use Rattle.std.specs.Prelude.{option_and_then}
use Rattle.nm_types.specs.declared.scripts.Command.{Command}
use Rattle.nm_history.specs.Answers.{answer_of}
use Rattle.nm_check_rank.specs.Runs.{commands_in}
use Rattle.nm_check_rank.proofs.paired.dues.answer_called.Goals as goal

pub returns-in-Some : goal.returns-in-Some
returns-in-Some c = λ e answer here ran.
    let run = c.args.run.now in
    let before = take c.args.k run.events.now in
    c.answer_told.ensures e answer here ran (sym c.in-Some.ensures)
    ∙ ap (λ (o : Option Command). option_and_then (λ c'. answer_of (commands_in run) before c.args.line c') o)
    c.in-Some.ensures

pub returns-in-None : goal.returns-in-None
returns-in-None c = λ e answer here ran.
    let run = c.args.run.now in
    let before = take c.args.k run.events.now in
    ap (λ (o : Option Command). option_and_then (λ c'. answer_of (commands_in run) before c.args.line c') o)
    c.in-None.ensures
