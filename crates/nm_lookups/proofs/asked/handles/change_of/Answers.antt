use Rattle.std.proofs.Common.{sym}
use Rattle.nm_types.specs.Commands.{command_at, commands_of}
use Rattle.nm_history.specs.Answers.{is_claim_for, is_receive_of, is_seen, is_started}
use Rattle.nm_lookups.proofs.NameLemmas.{no_command_keeps}
use Rattle.nm_lookups.proofs.asked.handles.change_of.Goals as goal

pub returns-in-Some : goal.returns-in-Some
returns-in-Some c = λ q was.
    c.change_of_handle.ensures (commands_of c.args.rank c.args.lines.now) c.args.line q was (sym c.in-Some.ensures)

pub returns-in-None : goal.returns-in-None
returns-in-None c = λ q was.
    no_command_keeps is_claim_for is_receive_of is_seen is_started
    (command_at (commands_of c.args.rank c.args.lines.now) c.args.line) c.args.line c.args.answer.now q was
    (sym c.in-None.ensures)
