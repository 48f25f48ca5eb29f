use Rattle.std.proofs.Common.{◌≡◌, drop}
use Rattle.nm_diagram.specs.Anchors.{since}
use Rattle.nm_diagram.proofs.anchors.since.Given as goal

-- what was passed is before it
abbrev pub invariant-loop-at : goal.invariant-loop-at
invariant-loop-at l = since l.first (drop l.at l.events) ≡ since l.first l.events
