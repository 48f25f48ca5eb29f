use Rattle.std.proofs.Common.{◌≡◌, take}
use Rattle.std.specs.Prelude.{filter_map}
use Rattle.nm_waits.specs.Near.{near_receive}
use Rattle.nm_waits.proofs.near.near_receives.Given as goal

abbrev pub invariant-loop-deed : goal.invariant-loop-deed
invariant-loop-deed l = l.near.items ≡ filter_map (near_receive l.rank l.a) (take l.deed-index l.rank.deeds)
