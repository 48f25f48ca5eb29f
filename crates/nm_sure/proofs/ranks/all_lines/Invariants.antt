use Rattle.std.proofs.Common.{◌≡◌, map}
use Rattle.std.specs.List.{range_with_len}
use Rattle.nm_sure.specs.Held.{own_lines}
use Rattle.nm_sure.proofs.ranks.all_lines.Given as goal

-- the lines of the ranks so far
abbrev pub invariant-loop-rank : goal.invariant-loop-rank
invariant-loop-rank l = map (λ own. own.items) l.all.items ≡ map (own_lines l.lines) (range_with_len 0 l.rank)
