use Rattle.std.proofs.Common.{◌+◌, ◌*◌, ◌≤◌, ◌^◌, List, map}
use Rattle.std.specs.List.{range_with_len}
use Rattle.nm_persist.specs.Report.{Named, last_result}
use Rattle.nm_persist.specs.Results.{AreResults, IsReceived}
use Rattle.nm_persist.proofs.results.Received.of_line.Given as goal

-- the parts so far are put
abbrev pub invariant-loop-k : goal.invariant-loop-k
invariant-loop-k l = record {
  received : (before : List Named) → AreResults before l.results.map
      → IsReceived (map (λ k. last_result before (l.asked.name + k)) (range_with_len 0 l.k)) l.received;
  lost : l.received.lost ≤ 2 ^ 32 * l.k;
}
