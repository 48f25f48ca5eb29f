-- What was found was said.
use Rattle.std.proofs.Common.{inr}
use Rattle.nm_chart.proofs.parts.chart_part.Goals as goal

pub returns-clause-done : goal.returns-clause-done
returns-clause-done g c = inr (
  c.in-Ok.outcome,
  record {
    right = c.in-Ok.ensures.outcome;
    read = c.in-Ok.ensures.read;
    said = (
      c.in-Ok-outcome_text.due.items,
      c.in-Ok-outcome_text.ensures,
      rw (c.deref.ensures.value, c.outcome_status.ensures) at c.deliver.ensures.said,
    );
  },
)
