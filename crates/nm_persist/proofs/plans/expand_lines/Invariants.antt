use Rattle.std.proofs.Common.{◌≡◌, take}
use Rattle.nm_plans.specs.Expansion.{expand}
use Rattle.nm_plans.specs.PlanRequests.{AreRequests}
use Rattle.nm_persist.proofs.plans.expand_lines.Given as goal

-- the script so far is that of the lines so far, and the requests are theirs
abbrev pub invariant-loop-line : goal.invariant-loop-line
invariant-loop-line l = record {
  script : l.out.items ≡ expand (take l.line-index l.lines);
  requests : AreRequests (take l.line-index l.lines) l.requests.map;
}
