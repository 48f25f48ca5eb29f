use Rattle.std.proofs.Common.{◌≡◌, ◌≤◌, List, [], ◌++◌, length, map, drop, string_bytes}
use Rattle.nm_persist.specs.Report.{Named, rank_lines}
use Rattle.nm_persist.specs.Results.{AreResults}
use Rattle.nm_persist.proofs.texts.push_rank.Given as goal

-- what is written and what is still to write are all
abbrev pub invariant-loop-line : goal.invariant-loop-line
invariant-loop-line l = record {
  before : List Named;
  results : AreResults before l.results.map;
  next : l.next ≤ length l.answers;
  written : string_bytes l.out
      ++ rank_lines l.rank (drop l.line-index l.asked) before (map (λ a. a.now) (drop l.next l.answers)) l.waits
      ≡ string_bytes l.fn.out ++ rank_lines l.rank l.asked [] (map (λ a. a.now) l.answers) l.waits;
}
