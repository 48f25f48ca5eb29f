use Rattle.std.proofs.Common.{◌≡◌, take}
use Rattle.nm_types.specs.Bodies.{bytes_of}
use Rattle.nm_explored.proofs.ends.bytes_of.Given as goal

-- the bytes so far
abbrev pub invariant-loop-k : goal.invariant-loop-k
invariant-loop-k l = l.bytes.items ≡ take l.k (bytes_of l.body)
