use Rattle.std.proofs.Common.{◌∙◌, take}
use Rattle.std.specs.Prelude.{slice_get}
use Rattle.nm_check_rank.specs.Runs.{commands_in}
use Rattle.nm_check_rank.proofs.AnswerLemmas.{other_next}
use Rattle.nm_check_rank.proofs.paired.dues.answer_due.Goals as goal

pub returns-in-Ran : goal.returns-in-Ran
returns-in-Ran c =
    let run = c.args.run.now in
    rw c.in-Ran.is
    (c.line_due.ensures (commands_in run) (take c.args.k run.events.now)
    (c.next_line-next.ensures ∙ (λ i. slice_get (c.requires.run.own i) (c.requires.ran i)))
    (c.answer_called-called.ensures c.args.e.now c.in-Ran.answer c.requires.here c.in-Ran.is))

pub returns-in_default : goal.returns-in_default
returns-in_default c =
    let run = c.args.run.now in
    other_next (commands_in run) (take c.args.k run.events.now) c.args.e.now.what c.in_default.not-Ran
