use Rattle.std.proofs.Common.{Option, ◌∙◌, ap, sym, take}
use Rattle.std.specs.Prelude.{option_and_then}
use Rattle.nm_types.specs.Commands.{commands_of}
use Rattle.nm_types.specs.declared.scripts.Command.{Command}
use Rattle.nm_history.specs.declared.events.Happened.{Happened}
use Rattle.nm_history.specs.Delivery.{asked_pair}
use Rattle.nm_lookups.specs.AskedFor.{asked_request}
use Rattle.nm_check_rank.proofs.AnswerLemmas.{of_name}
use Rattle.nm_check_rank.proofs.paired.tables.Tables.pair_asked.Goals as goal

pub returns-in-Some : goal.returns-in-Some
returns-in-Some c = λ h e answer told here ran.
    let commands = commands_of c.args.rank c.args.lines.now in
    c.pair_shown.ensures c.args.rank c.args.lines.now h commands told
    (of_name commands (take c.args.k h) c.args.line answer c.in-Some.command.now c.request.result
    (sym c.in-Some.ensures)
    (c.request.ensures commands h e told.asked here
    ∙ ap (λ (w : Happened). asked_request commands (take c.args.k h) w) ran))
    ∙ ap (λ (o : Option Command). option_and_then (asked_pair commands (take c.args.k h)) o) c.in-Some.ensures

pub returns-in-None : goal.returns-in-None
returns-in-None c = λ h e answer told here ran.
    ap (λ (o : Option Command). option_and_then (asked_pair (commands_of c.args.rank c.args.lines.now)
    (take c.args.k h)) o)
    c.in-None.ensures
