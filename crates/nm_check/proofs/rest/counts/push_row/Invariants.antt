use Rattle.std.proofs.Common.{◌≡◌, ℕ, ◌<◌, ◌^◌, ◌++◌}
use Rattle.nm_report.specs.Ends.{packets_of}
use Rattle.nm_check.specs.Counting.{AreDue, row_from}
use Rattle.nm_check.proofs.rest.counts.push_row.Given as goal

-- the counts for the ranks so far stand behind the others
abbrev pub invariant-loop-to : goal.invariant-loop-to
invariant-loop-to l =
    (packets : ℕ → ℕ) → AreDue l.counts packets → ((to : ℕ) → packets to < 2 ^ 64) →
    packets_of l.due.items ≡ packets_of l.fn.due.items ++ row_from l.from packets 0 l.to
