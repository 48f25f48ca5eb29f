use Rattle.std.proofs.Common.{◌≡◌, ◌≤◌, take}
use Rattle.std.specs.Str.Parse.{digits_value, AllDigits}
use Rattle.nm_script.proofs.words.numbers.number_up_to.Given as goal

-- the digits so far, and their value
abbrev pub invariant-loop-byte : goal.invariant-loop-byte
invariant-loop-byte l = record {
  value : l.value ≡ digits_value 10 (take l.byte-index l.bytes);
  within : l.value ≤ l.most;
  digits : AllDigits 10 (take l.byte-index l.bytes);
}
