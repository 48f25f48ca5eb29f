-- The ranks stay in step.
use Rattle.uses.specs.Steps.{AreInStep}
use Rattle.uses.proofs.rank.moving.exchange.Given as goal

abbrev pub invariant-loop : goal.invariant-loop
invariant-loop l = AreInStep 0 1 l.a l.b
