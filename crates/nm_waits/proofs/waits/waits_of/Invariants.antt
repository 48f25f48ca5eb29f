-- Where the ranks before this one wait.
use Rattle.std.proofs.Common.{◌≡◌, take}
use Rattle.nm_waits.specs.Waits.{waits_of}
use Rattle.nm_waits.proofs.waits.waits_of.Given as goal

abbrev pub invariant-loop-i : goal.invariant-loop-i
invariant-loop-i l = l.waits.items ≡ waits_of l.lines (take l.i l.states)
