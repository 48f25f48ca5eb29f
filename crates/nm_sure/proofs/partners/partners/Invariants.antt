use Rattle.std.proofs.Common.{◌≡◌, map}
use Rattle.std.specs.List.{range_with_len}
use Rattle.nm_sure.specs.Ways.{partner_at}
use Rattle.nm_sure.proofs.partners.partners.Given as goal

-- the partners of the lines so far
abbrev pub invariant-loop-k : goal.invariant-loop-k
invariant-loop-k l = l.partners.items ≡ map (partner_at l.lines) (range_with_len 0 l.k)
