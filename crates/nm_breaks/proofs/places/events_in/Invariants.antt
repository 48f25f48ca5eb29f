use Rattle.std.proofs.Common.{◌≡◌, take}
use Rattle.nm_report.specs.Ends.{ends_of}
use Rattle.nm_breaks.specs.Places.{events_in}
use Rattle.nm_breaks.proofs.places.events_in.Given as goal

-- the events of the ranks so far
abbrev pub invariant-loop-rank : goal.invariant-loop-rank
invariant-loop-rank l = l.events ≡ events_in (take l.rank-index (ends_of l.ranks))
