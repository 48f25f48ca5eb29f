use Rattle.std.proofs.Common.{ℕ, ◌*◌, ◌≤◌, take}
use Rattle.nm_history.specs.Outgoing.{packets_of_events}
use Rattle.nm_check.specs.Counting.{AreDue}
use Rattle.nm_check.proofs.rest.counts.counts_of_events.Given as goal

-- the events so far are counted
abbrev pub invariant-loop-e : goal.invariant-loop-e
invariant-loop-e l =
    AreDue l.counts (λ to. packets_of_events to (take l.e-index l.events))
    × ((to : ℕ) → packets_of_events to (take l.e-index l.events) ≤ l.e-index * 4294967295)
