use Rattle.std.proofs.Common.{◌≡◌, ◌≤◌, ◌<◌, ◌^◌, ◌+◌, decimal, length}
use Rattle.nm_script.proofs.words.numbers.decimal_len.Given as goal

-- the digits that are counted and those that are left are all
abbrev pub invariant-loop-rest : goal.invariant-loop-rest
invariant-loop-rest l = record {
  digits : l.len + length (decimal l.rest) ≡ 1 + length (decimal l.n);
  small : l.rest < 2 ^ 64;
  some : 1 ≤ l.len;
}

abbrev pub decreases-loop-rest : goal.decreases-loop-rest
decreases-loop-rest l = l.rest
