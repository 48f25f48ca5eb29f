-- The law is a lemma.
use Rattle.nm_chart.proofs.WidenedLemmas.{widened-trace}
use Rattle.nm_chart.proofs.laws.one_shape_serves_for_all.Goals as goal

pub returns : goal.returns
returns c = widened-trace
