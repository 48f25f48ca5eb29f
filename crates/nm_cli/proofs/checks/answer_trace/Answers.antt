-- What was read is judged.
use Rattle.nm_cli.proofs.checks.answer_trace.Goals as goal

pub returns : goal.returns
returns c = (
  c.requires.check,
  record {
    right = c.in_ok-trial.ensures.right;
    holds = λ traced. c.in_ok-trial.ensures.holds traced.front traced.rest traced.ranks traced.lines traced.run
        traced.input traced.script traced.trace traced.lawful;
  },
)
