use Rattle.nm_chart.proofs.KeptLemmas.{KeptTo}
use Rattle.nm_chart.proofs.choosing.keep_all.Given as goal

-- those that were visited are kept or not, and the others are as they were
abbrev pub invariant-loop-rank : goal.invariant-loop-rank
invariant-loop-rank l = KeptTo l.chosen l.rank l.initial.ranks l.ranks
