use Rattle.std.proofs.Common.{◌≡◌, map}
use Rattle.std.specs.Prelude.{take}
use Rattle.std.specs.List.{range_with_len}
use Rattle.nm_sure.specs.Ways.{AreAllIn, place_at}
use Rattle.nm_sure.proofs.partners.place_starts.Given as goal

-- the starts of the lines so far stand in the two maps, and their places in the list
abbrev pub invariant-loop-k : goal.invariant-loop-k
invariant-loop-k l =
    AreAllIn l.placed.sends l.placed.receives (take l.k l.lines)
    × (l.placed.places.items ≡ map (place_at l.lines) (range_with_len 0 l.k))
