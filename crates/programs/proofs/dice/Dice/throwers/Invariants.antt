use Rattle.std.proofs.Common.{◌≡◌, length}
use Rattle.programs.proofs.dice.Dice.throwers.Given as goal

-- those so far
abbrev pub invariant-loop-me : goal.invariant-loop-me
invariant-loop-me l = length l.throwers.items ≡ l.me
