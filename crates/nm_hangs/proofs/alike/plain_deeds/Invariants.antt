-- The deeds so far.
use Rattle.std.proofs.Common.{◌≡◌, map, take}
use Rattle.nm_hangs.specs.Alike.{plain}
use Rattle.nm_hangs.proofs.alike.plain_deeds.Given as goal

abbrev pub invariant-loop-deed : goal.invariant-loop-deed
invariant-loop-deed l = l.all.items ≡ map plain (take l.deed-index l.deeds)
