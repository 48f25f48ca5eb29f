use Rattle.std.proofs.Common.{length}
use Rattle.nm_chart.proofs.words.options.+rest.Given as goal

abbrev pub decreases-rest : goal.decreases-rest
decreases-rest l = length l.words.now
