-- A process begins.
use Rattle.std.proofs.Common.{sym}
use Rattle.nm_process.proofs.WorkLemmas.{begins, none_held, none_given}
use Rattle.nm_process.proofs.processes.Process.new.Goals as goal

pub invariant_of-result : goal.invariant_of-result
invariant_of-result g c = (
  none_given _ c.in_ok-requests.requests c.in_ok-requests.ensures,
  none_held _ c.new.result.entries c.new.ensures.empty,
  sym c.in_ok-with_capacity.ensures.me,
)

pub returns-clause-begins : goal.returns-clause-begins
returns-clause-begins g c commands bound =
    let v = c.in_ok-with_capacity.field-0 in
    let e = c.in_ok-with_capacity.ensures in
    begins c.args.shape commands bound v c.in_ok-requests.requests c.new.result.entries e.sizes e.events
    c.in_ok-requests.ensures c.new.ensures.empty
