use Rattle.std.proofs.Common.{◌≡◌, length, take}
use Rattle.nm_world.specs.ByRank.{AreByRank}
use Rattle.nm_world.proofs.by_rank.places_by_rank.Given as goal

-- those of the lines so far
abbrev pub invariant-loop-place : goal.invariant-loop-place
invariant-loop-place l = record {
  places : AreByRank (take l.place l.lines) l.all.items;
  many : length l.all.items ≡ l.fn.ranks;
}
