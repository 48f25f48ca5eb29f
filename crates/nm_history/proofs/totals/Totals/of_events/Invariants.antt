use Rattle.std.proofs.Common.{take}
use Rattle.nm_history.specs.Totals.{AreTotals, answers_given}
use Rattle.nm_history.proofs.totals.Totals.of_events.Given as goal

-- the answers of the events so far are added
abbrev pub invariant-loop-event : goal.invariant-loop-event
invariant-loop-event l = AreTotals (answers_given (take l.event-index l.events)) l.totals
