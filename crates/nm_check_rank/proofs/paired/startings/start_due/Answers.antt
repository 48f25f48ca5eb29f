use Rattle.std.proofs.Common.{Bool, Option, ◌∙◌, ap, subst, take}
use Rattle.std.specs.Prelude.{option_map}
use Rattle.nm_check_rank.specs.Runs.{commands_in}
use Rattle.nm_check_rank.specs.Startings.{IsAnswerDue}
use Rattle.nm_check_rank.specs.declared.paired.dues.Due.TheVariants.{Against}
use Rattle.nm_check_rank.specs.declared.paired.objections.Objection.{Objection}
use Rattle.nm_check_rank.proofs.StartingLemmas.{other_is_due}
use Rattle.nm_check_rank.proofs.paired.startings.start_due.Goals as goal

pub returns-in-Ran : goal.returns-in-Ran
returns-in-Ran c =
    let run = c.args.run.now in
    rw c.in-Ran.is
    (subst (λ (b : Bool). IsAnswerDue run.shape.eager (commands_in run) (take c.args.k run.events.now) c.in-Ran.line b
    c.answer_due.result) c.is_started.ensures
    (c.answer_due.ensures c.args.e.now c.in-Ran.answer c.requires.here c.in-Ran.is))

pub returns-in_default : goal.returns-in_default
returns-in_default c =
    let run = c.args.run.now in
    let h = run.events.now in
    other_is_due run.shape.eager (commands_in run) (take c.args.k h) c.args.e.now.what c.against.result
    c.in_default.not-Ran
    (c.against.ensures ∙ ap (λ (o : Option Objection). option_map Against o)
    (c.match_objection.ensures run.rank run.lines.now h c.requires.run.tables))
