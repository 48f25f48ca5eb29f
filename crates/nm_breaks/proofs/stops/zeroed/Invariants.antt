use Rattle.std.proofs.Common.{◌≡◌, ◌++◌, false, drop}
use Rattle.nm_breaks.specs.Stops.{zeroed as zeroed_lem}
use Rattle.nm_breaks.proofs.stops.zeroed.Given as goal

-- what is left follows what was written
abbrev pub invariant-loop-byte : goal.invariant-loop-byte
invariant-loop-byte l =
    l.text.items ++ zeroed_lem l.behind (drop l.byte-index l.line) ≡ zeroed_lem false l.line
