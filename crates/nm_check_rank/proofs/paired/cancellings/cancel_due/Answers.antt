use Rattle.std.proofs.Common.{Option, ◌∙◌, ap, take}
use Rattle.std.specs.Prelude.{option_map}
use Rattle.nm_history.specs.Completion.{Request as Meant}
use Rattle.nm_history.specs.RankRun.{cancels_since}
use Rattle.nm_check_rank.specs.Cancellings.{cancels_due}
use Rattle.nm_check_rank.specs.Runs.{commands_in}
use Rattle.nm_check_rank.specs.declared.paired.dues.Due.TheVariants.{Against}
use Rattle.nm_check_rank.specs.declared.paired.objections.Objection.{Objection}
use Rattle.nm_check_rank.proofs.CancellingLemmas.{other_cancel}
use Rattle.nm_check_rank.proofs.paired.cancellings.cancel_due.Goals as goal

pub returns-in-Ran : goal.returns-in-Ran
returns-in-Ran c =
    let h = c.args.run.now.events.now in
    let before = take c.args.k h in
    rw c.in-Ran.is
    (c.cancels_due.ensures ∙ ap (λ (o : Option Meant). cancels_due before o (cancels_since before))
    (c.cancelled-request.ensures h c.args.e.now c.in-Ran.answer c.requires.run.tables c.requires.here c.in-Ran.is))

pub returns-in_default : goal.returns-in_default
returns-in_default c =
    let run = c.args.run.now in
    let h = run.events.now in
    c.against.ensures
    ∙ ap (λ (o : Option Objection). option_map Against o)
    (c.cancel_objection.ensures run.rank run.lines.now h c.requires.run.tables)
    ∙ other_cancel (commands_in run) (take c.args.k h) c.args.e.now.what c.in_default.not-Ran
