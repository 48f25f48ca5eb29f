-- The states after the moves so far.
use Rattle.std.proofs.Common.{◌≡◌, ◌-◌, drop, length}
use Rattle.nm_waits.specs.States.{states_by}
use Rattle.nm_waits.proofs.states.states_after.Given as goal

abbrev pub invariant-loop-k : goal.invariant-loop-k
invariant-loop-k l = l.states.items ≡ states_by l.ranks (drop (length l.path - l.k) l.path)
