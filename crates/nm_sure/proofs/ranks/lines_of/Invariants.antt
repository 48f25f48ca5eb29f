use Rattle.std.proofs.Common.{◌≡◌}
use Rattle.std.specs.Prelude.{take}
use Rattle.nm_sure.specs.Held.{own_lines}
use Rattle.nm_sure.proofs.ranks.lines_of.Given as goal

-- the lines of the rank's commands so far
abbrev pub invariant-loop-k : goal.invariant-loop-k
invariant-loop-k l = l.own.items ≡ own_lines (take l.k l.lines) l.rank
