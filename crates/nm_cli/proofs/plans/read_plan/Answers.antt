-- A text that is refused is no plan, and the fault is its first.
use Rattle.nm_cli.proofs.plans.read_plan.Goals as goal

pub returns-in-Err-Bad-clause-refused : goal.returns-in-Err-Bad-clause-refused
returns-in-Err-Bad-clause-refused c = (
  rw c.in-Err-Bad.field-0-is at (c.in-Err-Bad.ensures.fault),
  λ ranks lines is. rw c.in-Err-Bad.field-0-is at (c.in-Err-Bad.ensures.takes ranks lines is),
)
