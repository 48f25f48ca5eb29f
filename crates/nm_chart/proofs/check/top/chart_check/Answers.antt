-- What was found was said.
use Rattle.std.proofs.Common.{inr}
use Rattle.nm_chart.proofs.check.top.chart_check.Goals as goal

pub returns-clause-done : goal.returns-clause-done
returns-clause-done g c = inr (
  c.in-Ok.finding,
  record {
    right = c.in-Ok.ensures.answer;
    read = c.in-Ok.ensures.read;
    said = (
      c.in-Ok-text.due.items,
      c.in-Ok-text.ensures,
      rw (c.deref.ensures.value, c.status.ensures) at c.deliver.ensures.said,
    );
  },
)
