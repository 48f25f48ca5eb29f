-- The state of the first parts.
use Rattle.std.proofs.Common.{◌≡◌, take}
use Rattle.nm_explored.specs.Packs.{spot_by}
use Rattle.nm_explored.proofs.packs.rank_of.Given as goal

abbrev pub invariant-loop-number : goal.invariant-loop-number
invariant-loop-number l = l.rank ≡ spot_by l.parts (take l.number-index l.row)
