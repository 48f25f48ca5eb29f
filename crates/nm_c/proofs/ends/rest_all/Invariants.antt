use Rattle.nm_c.specs.Ranks.{handles_in}
use Rattle.nm_c.proofs.Turned.{TurnedTo}
use Rattle.nm_c.proofs.ends.rest_all.Given as goal

-- those that were visited made a turn, and the others are as they were
abbrev pub invariant-loop-place : goal.invariant-loop-place
invariant-loop-place l = TurnedTo l.place (handles_in l.initial.ranks) (handles_in l.ranks)
