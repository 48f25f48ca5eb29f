-- The entries so far, and those that are left.
use Rattle.std.proofs.Common.{◌≡◌, ◌==◌, ◌++◌, ℕ, false}
use Rattle.std.specs.Vec.Iter.{into_iter_items}
use Rattle.nm_outcomes.specs.Logs.{history_in}
use Rattle.nm_listed.proofs.retold.records.take_events.Given as goal

abbrev pub invariant-loop-entry : goal.invariant-loop-entry
invariant-loop-entry l = record {
  mine : l.events.items ++ history_in (into_iter_items l.entry-iterator) l.i ≡ history_in l.fn.entries.items l.i;
  others : (j : ℕ) → (l.i == j) ≡ false →
      history_in l.entries.items j ++ history_in (into_iter_items l.entry-iterator) j
      ≡ history_in l.fn.entries.items j;
}
