use Rattle.std.proofs.Common.{◌≡◌, ◌++◌, drop, flat_map, string_bytes}
use Rattle.nm_report.specs.Events.{event_line}
use Rattle.nm_report.proofs.events.push_events.Given as goal

-- what is written and what is still to write are all
abbrev pub invariant-loop-event : goal.invariant-loop-event
invariant-loop-event l =
    string_bytes l.out ++ flat_map (event_line l.rank) (drop l.event-index l.account.history.events)
    ≡ string_bytes l.fn.out ++ flat_map (event_line l.rank) l.account.history.events
