-- A text that is refused is no script, and the fault is its first.
use Rattle.nm_cli.specs.Answers.{IsTold}
use Rattle.nm_cli.proofs.runs.read_text.Goals as goal

pub returns-in-Err-Bad-clause-refused : goal.returns-in-Err-Bad-clause-refused
unfolding IsTold
returns-in-Err-Bad-clause-refused c = (
  rw c.in-Err-Bad.field-0-is at (c.in-Err-Bad.ensures.fault),
  λ ranks lines is. rw c.in-Err-Bad.field-0-is at (c.in-Err-Bad.ensures.takes ranks lines is),
)
