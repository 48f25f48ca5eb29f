use Rattle.std.proofs.Common.{◌≡◌, map, take}
use Rattle.nm_types.specs.Commands.{commands_of}
use Rattle.nm_check_rank.proofs.paired.order.own_lines.Given as goal

-- the lines of the rank's commands so far
abbrev pub invariant-loop-k : goal.invariant-loop-k
invariant-loop-k l = l.own.items ≡ map (λ c. c.line) (commands_of l.rank (take l.k l.lines))
