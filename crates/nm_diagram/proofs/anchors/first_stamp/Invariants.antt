use Rattle.std.proofs.Common.{◌≡◌, drop}
use Rattle.nm_diagram.specs.Anchors.{first_stamp}
use Rattle.nm_diagram.proofs.anchors.first_stamp.Given as goal

-- it is not among those that were looked at
abbrev pub invariant-loop-event : goal.invariant-loop-event
invariant-loop-event l =
    first_stamp l.span l.anchor (drop l.event-index l.events) ≡ first_stamp l.span l.anchor l.events
