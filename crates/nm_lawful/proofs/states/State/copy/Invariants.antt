-- The first ranks are copied.
use Rattle.std.proofs.Common.{◌≡◌, take}
use Rattle.nm_lawful.proofs.states.State.copy.Given as goal

abbrev pub invariant-loop-rank : goal.invariant-loop-rank
invariant-loop-rank l = l.all.items ≡ take l.rank-index l.rank-items
