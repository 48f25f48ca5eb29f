-- What is left of the ranks so far.
use Rattle.std.proofs.Common.{◌≡◌}
use Rattle.nm_listed.specs.Tellings.{each_below, over_rank}
use Rattle.nm_listed.proofs.retold.tellings.ranks_over.Given as goal

abbrev pub invariant-loop-i : goal.invariant-loop-i
invariant-loop-i l = l.log ≡ each_below (λ i log. over_rank l.ranks l.states i log) l.i l.fn.log
