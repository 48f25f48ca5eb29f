use Rattle.std.proofs.Common.{◌≡◌, length}
use Rattle.programs.proofs.mix.ranks.Given as goal

-- those so far
abbrev pub invariant-loop-me : goal.invariant-loop-me
invariant-loop-me l = length l.ranks.items ≡ l.me
