use Rattle.std.proofs.Common.{None, Some, ◌∙◌, ap, take}
use Rattle.nm_types.specs.Commands.{command_at}
use Rattle.nm_history.specs.declared.events.Happened.{Happened}
use Rattle.nm_history.specs.RankRun.{is_start}
use Rattle.nm_lookups.specs.AskedFor.{asked_message}
use Rattle.nm_check_rank.specs.Manies.{many_due}
use Rattle.nm_check_rank.specs.Runs.{commands_in}
use Rattle.nm_check_rank.specs.declared.paired.manies.Many.{Many}
use Rattle.nm_check_rank.specs.declared.paired.manies.Many.TheVariants.{Nothing}
use Rattle.nm_check_rank.proofs.StartLemmas.{of_handle}
use Rattle.nm_check_rank.proofs.StartingLemmas.{answer_is_due, started_is}
use Rattle.nm_check_rank.proofs.paired.startings.answer_due.Goals as goal

pub returns-in-Some : goal.returns-in-Some
returns-in-Some c = λ e answer here ran.
    let run = c.args.run.now in
    let commands = commands_in run in
    let before = take c.args.k run.events.now in
    let command = c.in-Some.command.now in
    answer_is_due run.shape.eager commands before c.args.line c.args.started c.taken_due.result (Some command)
    c.in-Some.ensures
    (c.taken_due.ensures commands
    (of_handle commands before c.args.line answer command c.message.result
    (started_is c.args.started (command_at commands c.args.line) command c.in-Some.ensures)
    (c.message.ensures commands run.events.now e c.requires.run.tables.asked here
    ∙ ap (λ (w : Happened). asked_message commands before w) ran)))

pub returns-in-None : goal.returns-in-None
returns-in-None c = λ e answer here ran.
    let run = c.args.run.now in
    let h = run.events.now in
    answer_is_due run.shape.eager (commands_in run) (take c.args.k h) c.args.line c.args.started c.many_due.result None
    c.in-None.ensures
    (c.many_due.ensures ∙ ap (λ (m : Many). many_due Nothing m) (c.many_of.ensures is_start h c.args.k c.requires.left))
