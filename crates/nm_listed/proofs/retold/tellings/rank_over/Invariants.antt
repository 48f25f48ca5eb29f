-- What is left for the ranks so far.
use Rattle.std.proofs.Common.{◌≡◌}
use Rattle.nm_listed.specs.Tellings.{each_below, over_pair}
use Rattle.nm_listed.proofs.retold.tellings.rank_over.Given as goal

abbrev pub invariant-loop-j : goal.invariant-loop-j
invariant-loop-j l = l.log ≡ each_below (λ j log. over_pair l.states l.i j log) l.j l.fn.log
