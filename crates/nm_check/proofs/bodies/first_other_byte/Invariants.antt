use Rattle.std.proofs.Common.{◌≡◌, take}
use Rattle.nm_history.specs.Sends.{sent_bytes}
use Rattle.nm_check.proofs.bodies.first_other_byte.Given as goal

-- the bytes so far are those that were sent
abbrev pub invariant-loop-k : goal.invariant-loop-k
invariant-loop-k l = take l.k l.bytes ≡ take l.k (sent_bytes l.command)
