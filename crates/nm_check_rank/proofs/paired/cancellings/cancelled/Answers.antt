use Rattle.std.proofs.Common.{false, true, ◌∙◌, ap, sym, take}
use Rattle.nm_types.specs.Commands.{command_at, commands_of}
use Rattle.nm_history.specs.declared.events.Happened.{Happened}
use Rattle.nm_lookups.specs.AskedFor.{asked_request}
use Rattle.nm_check_rank.proofs.CancellingLemmas.{cancelled_by}
use Rattle.nm_check_rank.proofs.paired.cancellings.cancelled.Goals as goal

pub returns-then-is_cancel_line : goal.returns-then-is_cancel_line
returns-then-is_cancel_line c = λ h e answer told here ran.
    let commands = commands_of c.args.rank c.args.lines.now in
    let before = take c.args.k h in
    c.request.ensures commands h e told.asked here
    ∙ ap (λ (w : Happened). asked_request commands before w) ran
    ∙ cancelled_by commands before (command_at commands c.args.line) true
    (sym c.if-is_cancel_line.true ∙ c.is_cancel_line.ensures)

pub returns-else-is_cancel_line : goal.returns-else-is_cancel_line
returns-else-is_cancel_line c = λ h e answer told here ran.
    let commands = commands_of c.args.rank c.args.lines.now in
    cancelled_by commands (take c.args.k h) (command_at commands c.args.line) false
    (sym c.if-is_cancel_line.false ∙ c.is_cancel_line.ensures)
