-- The part still does it.
use Rattle.nm_why.specs.Least.{IsPart}
use Rattle.nm_why.proofs.least.thin.Given as goal

abbrev pub invariant-loop-turn : goal.invariant-loop-turn
invariant-loop-turn g l = IsPart l.of.aim l.of.shape l.of.lines.now l.places.items
