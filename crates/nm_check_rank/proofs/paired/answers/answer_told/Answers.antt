use Rattle.std.proofs.Common.{◌∙◌, ap, sym, take}
use Rattle.nm_history.specs.declared.events.Happened.{Happened}
use Rattle.nm_lookups.specs.Looks.{look_of}
use Rattle.nm_lookups.specs.AskedFor.{asked_message, asked_request}
use Rattle.nm_check_rank.specs.Runs.{commands_in}
use Rattle.nm_check_rank.proofs.AnswerLemmas.{found_of, of_name}
use Rattle.nm_check_rank.proofs.StartLemmas.{of_handle}
use Rattle.nm_check_rank.proofs.paired.answers.answer_told.Goals as goal

pub arrival_claimed-claimed-requires : goal.arrival_claimed-claimed-requires
arrival_claimed-claimed-requires c = c.requires.tables.places

pub returns : goal.returns
returns c = λ e answer here ran at.
    let run = c.args.run.now in
    let h = run.events.now in
    let commands = commands_in run in
    let before = take c.args.k h in
    let told = c.requires.tables in
    c.answer_by.ensures run.rank run.lines.now h commands c.args.line told
    (of_name commands before c.args.line answer c.args.command.now c.request-request.result at
    (c.request-request.ensures commands h e told.asked here
    ∙ ap (λ (w : Happened). asked_request commands before w) ran))
    (of_handle commands before c.args.line answer c.args.command.now c.message-message.result (sym at)
    (c.message-message.ensures commands h e told.asked here
    ∙ ap (λ (w : Happened). asked_message commands before w) ran))
    c.arrival_claimed-claimed.ensures
    (found_of commands before c.args.line answer c.args.command.now c.look-found.result at
    (c.look-found.ensures run.rank run.lines.now h told.tells e here
    ∙ ap (λ (w : Happened). look_of commands before w) ran))
