use Rattle.std.proofs.Common.{◌≡◌, None, replicate}
use Rattle.nm_lawful_top.proofs.readings.no_waits.Given as goal

abbrev pub invariant-loop : goal.invariant-loop
invariant-loop l = l.all.items ≡ replicate l.counter None
