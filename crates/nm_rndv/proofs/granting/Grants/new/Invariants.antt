use Rattle.std.proofs.Common.{◌≡◌, map, replicate, []}
use Rattle.nm_rndv.proofs.granting.Grants.new.Given as goal

abbrev pub invariant-loop-rank : goal.invariant-loop-rank
invariant-loop-rank l = map (λ s. s.grants) l.senders.items ≡ replicate l._rank []
