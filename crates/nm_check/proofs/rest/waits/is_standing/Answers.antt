use Rattle.std.proofs.Common.{Bool, sym, subst, true, false}
use Rattle.nm_types.specs.Commands.{commands_of}
use Rattle.nm_history.specs.Quiescence.{IsStopped}
use Rattle.nm_report.specs.Ends.{end_of_account}
use Rattle.nm_lookups.specs.Deciding.{Decides}
use Rattle.nm_check.proofs.WaitLemmas.{end_decided, none_decided, wait_decided}
use Rattle.nm_check.proofs.rest.waits.is_standing.Goals as goal

pub returns-in-Nothing : goal.returns-in-Nothing
returns-in-Nothing c =
    let commands = commands_of c.args.rank c.args.lines.now in
    let end = end_of_account c.args.account.now in
    none_decided (IsStopped commands end) end.waits c.is_none.result c.is_none.ensures
    (end_decided commands end (rw c.in-Nothing.is at c.next_of.ensures))

pub returns-then-is_waiting_at : goal.returns-then-is_waiting_at
returns-then-is_waiting_at c =
    wait_decided (commands_of c.args.rank c.args.lines.now) (end_of_account c.args.account.now) c.in-Command.line
    c.in-Command.goes_on true (rw c.in-Command.is at c.next_of.ensures)
    (rw c.if-is_waiting_at.true at c.is_waiting_at.ensures)

pub returns-else-is_waiting_at : goal.returns-else-is_waiting_at
returns-else-is_waiting_at c =
    let commands = commands_of c.args.rank c.args.lines.now in
    let end = end_of_account c.args.account.now in
    subst (λ (b : Bool). Decides b (IsStopped commands end)) (sym c.if-is_waiting_at.false)
    (wait_decided commands end c.in-Command.line c.in-Command.goes_on false (rw c.in-Command.is at c.next_of.ensures)
    (rw c.if-is_waiting_at.false at c.is_waiting_at.ensures))
