use Rattle.std.proofs.Common.{◌≡◌, ℕ, ◌++◌}
use Rattle.nm_report.specs.Ends.{packets_of}
use Rattle.nm_check.specs.Counting.{AreDue, row_from}
use Rattle.nm_check.proofs.rest.counts.behind_row.Given as goal

-- the counts for the ranks so far come first
abbrev pub invariant-loop-to : goal.invariant-loop-to
invariant-loop-to l = (due : ℕ → ℕ) → AreDue l.counts due → packets_of l.pairs ≡ row_from l.from due 0 l.to ++
    packets_of l.left
