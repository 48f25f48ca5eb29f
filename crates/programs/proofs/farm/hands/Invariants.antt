use Rattle.std.proofs.Common.{◌≡◌, length, ◌+◌}
use Rattle.programs.proofs.farm.hands.Given as goal

-- the master, and the workers so far
abbrev pub invariant-loop : goal.invariant-loop
invariant-loop l = length l.hands.items ≡ l.counter + 1
