-- The first states are expanded.
use Rattle.nm_lawful.specs.Moves.{report_lem}
use Rattle.nm_lawful.specs.Searches.{IsSearched}
use Rattle.nm_lawful.proofs.searches.search.Given as goal

abbrev pub invariant-loop-k : goal.invariant-loop-k
invariant-loop-k l = IsSearched l.report.lines.now (report_lem l.report.told.now l.report.waits.now) l.ranks l.report.until l.met l.k
