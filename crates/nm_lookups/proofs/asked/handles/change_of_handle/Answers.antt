use Rattle.std.proofs.Common.{ap}
use Rattle.nm_types.specs.declared.scripts.Command.{Command}
use Rattle.nm_types.specs.Commands.{command_at}
use Rattle.nm_history.specs.Answers.{is_claim_for, is_receive_of, is_seen, is_started}
use Rattle.nm_lookups.proofs.NameLemmas.{name_begins, name_ends, name_keeps, no_handle}
use Rattle.nm_lookups.proofs.asked.handles.change_of_handle.Goals as goal

pub returns-in-Mprobe : goal.returns-in-Mprobe
returns-in-Mprobe c = λ commands line m was at.
    name_begins is_claim_for is_receive_of is_seen is_started
    (command_at commands line) line c.args.answer.now c.args.command.now at m was
    c.in-Mprobe.m c.is_seen.result c.begins.result
    (ap (λ (x : Command). is_claim_for m x) c.in-Mprobe.is) (ap (λ (x : Command). is_receive_of m x) c.in-Mprobe.is)
    c.is_seen.ensures (c.begins.ensures m line was)

pub returns-in-Mrecv : goal.returns-in-Mrecv
returns-in-Mrecv c = λ commands line m was at.
    name_ends is_claim_for is_receive_of is_seen is_started
    (command_at commands line) line c.args.answer.now c.args.command.now at m was
    c.in-Mrecv.m c.is_started.result c.ends.result
    (ap (λ (x : Command). is_claim_for m x) c.in-Mrecv.is) (ap (λ (x : Command). is_receive_of m x) c.in-Mrecv.is)
    c.is_started.ensures (c.ends.ensures m line was)

pub returns-in_default : goal.returns-in_default
returns-in_default c = λ commands line m was at.
    let none = no_handle m c.args.command.now c.in_default.not-Mprobe c.in_default.not-Mrecv in
    name_keeps is_claim_for is_receive_of is_seen is_started
    (command_at commands line) line c.args.answer.now c.args.command.now at m was none.0 none.1
