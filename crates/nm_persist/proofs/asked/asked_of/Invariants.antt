use Rattle.std.proofs.Common.{◌≡◌, [], length, take}
use Rattle.nm_plans.specs.PlanRequests.{AreRequests}
use Rattle.nm_persist.specs.Report.{asked_behind}
use Rattle.nm_persist.specs.Results.{AreRows}
use Rattle.nm_persist.proofs.asked.asked_of.Given as goal

-- the rows are of the lines so far, and so are the requests
abbrev pub invariant-loop-place : goal.invariant-loop-place
invariant-loop-place l = record {
  rows : AreRows (asked_behind [] (take l.place l.lines)) l.all.items;
  len : length l.all.items ≡ l.fn.ranks;
  requests : AreRequests (take l.place l.lines) l.requests.map;
}
