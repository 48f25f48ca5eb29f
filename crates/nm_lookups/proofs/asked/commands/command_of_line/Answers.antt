use Rattle.std.proofs.Common.{◌-◌, ◌∙◌, arith, sym}
use Rattle.nm_lookups.proofs.CommandLemmas.{command_is, no_command}
use Rattle.nm_lookups.proofs.asked.commands.command_of_line.Goals as goal

pub returns-then-line-lt2 : goal.returns-then-line-lt2
returns-then-line-lt2 c = sym (no_command c.args.rank c.args.line c.args.lines.now c.if-line-lt2.true)

pub returns : goal.returns
returns c = c.own_command.ensures ∙ sym (command_is c.args.rank c.args.line c.args.lines.now (c.args.line - 2)
    (omega arith))
