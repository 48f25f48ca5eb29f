use Rattle.std.proofs.Common.{◌≡◌, replicate}
use Rattle.nm_rndv.specs.Offers.{untold}
use Rattle.nm_rndv.proofs.offering.Offers.new.Given as goal

abbrev pub invariant-loop-rank : goal.invariant-loop-rank
invariant-loop-rank l = l.destinations.items ≡ replicate l._rank untold
