-- The events so far.
use Rattle.std.proofs.Common.{◌≡◌, take}
use Rattle.nm_history.specs.Outgoing.{packets_of_events}
use Rattle.nm_listed.proofs.retold.packets.own_packets.Given as goal

abbrev pub invariant-loop-event : goal.invariant-loop-event
invariant-loop-event l = l.total ≡ packets_of_events l.to (take l.event-index l.events)
