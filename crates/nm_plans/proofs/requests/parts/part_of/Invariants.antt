use Rattle.std.proofs.Common.{◌≡◌, ◌-◌, take, drop}
use Rattle.nm_types.specs.Bodies.{bytes_of}
use Rattle.nm_plans.proofs.requests.parts.part_of.Given as goal

-- the bytes from the part's start up to here are put
abbrev pub invariant-loop-place : goal.invariant-loop-place
invariant-loop-place l = l.bytes ≡ take (l.place - l.start) (drop l.start (bytes_of l.body))
