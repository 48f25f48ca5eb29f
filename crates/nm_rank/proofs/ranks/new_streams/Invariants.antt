use Rattle.std.proofs.Common.{◌≡◌, map, replicate}
use Rattle.nm_history.specs.Known.{nothing_known}
use Rattle.nm_rank.proofs.ranks.new_streams.Given as goal

abbrev pub invariant-loop-rank : goal.invariant-loop-rank
invariant-loop-rank l = map (λ s. s.known) l.streams.items ≡ replicate l._rank nothing_known
