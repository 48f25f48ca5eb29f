use Rattle.std.proofs.Common.{◌≢◌, take}
use Rattle.std.specs.List.{AllByRecursion}
use Rattle.nm_shell.proofs.inputs.first_line.Given as goal

-- no line feed so far
abbrev pub invariant-loop-at : goal.invariant-loop-at
invariant-loop-at l = AllByRecursion (λ b. b ≢ 10) (take l.at l.bytes)
