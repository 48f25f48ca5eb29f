-- None of the waits before this one is the rank's.
use Rattle.std.proofs.Common.{◌≡◌, drop}
use Rattle.nm_waits.specs.Chains.{awaited_by}
use Rattle.nm_waits.proofs.chains.awaited_by.Given as goal

abbrev pub invariant-loop-wait : goal.invariant-loop-wait
invariant-loop-wait l = awaited_by (drop l.wait-index l.waits) l.rank ≡ awaited_by l.waits l.rank
