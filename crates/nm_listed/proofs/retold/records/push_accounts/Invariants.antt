-- The ranks so far, and the events that are left.
use Rattle.std.proofs.Common.{◌≡◌, ◌≤◌, ◌++◌, ℕ}
use Rattle.nm_report.specs.Ends.{ends_of}
use Rattle.nm_outcomes.specs.Logs.{history_in}
use Rattle.nm_listed.specs.Records.{all_ended}
use Rattle.nm_listed.proofs.retold.records.push_accounts.Given as goal

abbrev pub invariant-loop-i : goal.invariant-loop-i
invariant-loop-i l = record {
  made : ends_of l.accounts.items
      ≡ ends_of l.fn.accounts.items
      ++ all_ended l.lines (record { log = l.fn.entries.items; states = l.states }) l.i;
  left : (j : ℕ) → l.i ≤ j → history_in l.entries.items j ≡ history_in l.fn.entries.items j;
}
