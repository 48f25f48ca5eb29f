use Rattle.std.proofs.Common.{◌≡◌, map, take}
use Rattle.nm_waits.specs.Near.{near_message}
use Rattle.nm_waits.proofs.near.near_messages.Given as goal

abbrev pub invariant-loop-a : goal.invariant-loop-a
invariant-loop-a l = l.near.items ≡ map (near_message l.rank l.from l.tag l.ctx) (take l.a-index l.rank.came)
