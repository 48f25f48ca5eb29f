use Rattle.std.proofs.Common.{◌≡◌, replicate}
use Rattle.nm_outcomes.specs.RankStates.{first_spot}
use Rattle.nm_waits.proofs.states.idle.Given as goal

abbrev pub invariant-loop-rank : goal.invariant-loop-rank
invariant-loop-rank l = l.states.items ≡ replicate l._rank first_spot
