use Rattle.std.proofs.Common.{◌≡◌, ◌++◌}
use Rattle.std.specs.Vec.Iter.{into_iter_items}
use Rattle.nm_history.specs.Recorded.{Recorded}
use Rattle.nm_report.specs.Ends.{ends_of}
use Rattle.nm_world.specs.Records.{ends_by}
use Rattle.nm_world.proofs.records.accounts_of.Given as goal

abbrev pub invariant-loop-end : goal.invariant-loop-end
invariant-loop-end l = record {
  told : ends_of l.ranks ++ ends_by (λ (h : Recorded). h.events) (into_iter_items l.end-iterator)
      ≡ ends_by (λ (h : Recorded). h.events) l.fn.ends.items;
}
