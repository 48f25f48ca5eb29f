-- They still rise.
use Rattle.nm_why.specs.Least.{AreRising}
use Rattle.nm_why.proofs.least.without_some.Given as goal

abbrev pub invariant-loop-place : goal.invariant-loop-place
invariant-loop-place l = AreRising l.places → AreRising l.others.items
