-- The part still does it.
use Rattle.nm_why.specs.Least.{IsPart}
use Rattle.nm_why.proofs.least.halve.Given as goal

abbrev pub invariant-loop-count : goal.invariant-loop-count
invariant-loop-count g l = IsPart l.of.aim l.of.shape l.of.lines.now l.places.items

abbrev pub decreases-loop-count : goal.decreases-loop-count
decreases-loop-count g l = l.count
