-- The ranks stay in step.
use Rattle.uses.specs.Steps.{AreInStep}
use Rattle.uses.proofs.rank.show.Given as goal

abbrev pub invariant-loop-len : goal.invariant-loop-len
invariant-loop-len l = AreInStep 0 1 l.a l.b
