use Rattle.std.proofs.Common.{ap}
use Rattle.nm_types.specs.declared.scripts.Command.{Command}
use Rattle.nm_types.specs.Commands.{command_at}
use Rattle.nm_history.specs.Answers.{is_question_of, is_result, is_start_of, is_started}
use Rattle.nm_lookups.proofs.NameLemmas.{name_begins, name_ends, name_keeps, no_name}
use Rattle.nm_lookups.proofs.asked.requests.change_of_name.Goals as goal

pub returns-in-Send : goal.returns-in-Send
returns-in-Send c = λ commands line q was at.
    name_begins is_start_of is_question_of is_started is_result
    (command_at commands line) line c.args.answer.now c.args.command.now at q was
    c.in-Send.q c.is_started.result c.begins.result
    (ap (λ (x : Command). is_start_of q x) c.in-Send.is) (ap (λ (x : Command). is_question_of q x) c.in-Send.is)
    c.is_started.ensures (c.begins.ensures q line was)

pub returns-in-Recv : goal.returns-in-Recv
returns-in-Recv c = λ commands line q was at.
    name_begins is_start_of is_question_of is_started is_result
    (command_at commands line) line c.args.answer.now c.args.command.now at q was
    c.in-Recv.q c.is_started-in-Recv.result c.begins-in-Recv.result
    (ap (λ (x : Command). is_start_of q x) c.in-Recv.is) (ap (λ (x : Command). is_question_of q x) c.in-Recv.is)
    c.is_started-in-Recv.ensures (c.begins-in-Recv.ensures q line was)

pub returns-in-Mrecv : goal.returns-in-Mrecv
returns-in-Mrecv c = λ commands line q was at.
    name_begins is_start_of is_question_of is_started is_result
    (command_at commands line) line c.args.answer.now c.args.command.now at q was
    c.in-Mrecv.q c.is_started-in-Mrecv.result c.begins-in-Mrecv.result
    (ap (λ (x : Command). is_start_of q x) c.in-Mrecv.is) (ap (λ (x : Command). is_question_of q x) c.in-Mrecv.is)
    c.is_started-in-Mrecv.ensures (c.begins-in-Mrecv.ensures q line was)

pub returns-in-Wait : goal.returns-in-Wait
returns-in-Wait c = λ commands line q was at.
    name_ends is_start_of is_question_of is_started is_result
    (command_at commands line) line c.args.answer.now c.args.command.now at q was
    c.in-Wait.q c.is_result.result c.ends.result
    (ap (λ (x : Command). is_start_of q x) c.in-Wait.is) (ap (λ (x : Command). is_question_of q x) c.in-Wait.is)
    c.is_result.ensures (c.ends.ensures q line was)

pub returns-in-Test : goal.returns-in-Test
returns-in-Test c = λ commands line q was at.
    name_ends is_start_of is_question_of is_started is_result
    (command_at commands line) line c.args.answer.now c.args.command.now at q was
    c.in-Test.q c.is_result-in-Test.result c.ends-in-Test.result
    (ap (λ (x : Command). is_start_of q x) c.in-Test.is) (ap (λ (x : Command). is_question_of q x) c.in-Test.is)
    c.is_result-in-Test.ensures (c.ends-in-Test.ensures q line was)

pub returns-in_default : goal.returns-in_default
returns-in_default c = λ commands line q was at.
    let none = no_name q c.args.command.now c.in_default.not-Send c.in_default.not-Recv c.in_default.not-Mrecv
    c.in_default.not-Wait c.in_default.not-Test in
    name_keeps is_start_of is_question_of is_started is_result
    (command_at commands line) line c.args.answer.now c.args.command.now at q was none.0 none.1
