use Rattle.std.proofs.Common.{◌≡◌, ◌++◌, map}
use Rattle.std.specs.List.{range_with_len}
use Rattle.nm_plans.specs.Expansion.{line_at, wait_of}
use Rattle.nm_plans.proofs.requests.expansions.push_waits.Given as goal

-- the lines of the parts so far are put
abbrev pub invariant-loop-k : goal.invariant-loop-k
invariant-loop-k l =
    l.out.items ≡ l.fn.out.items ++ map (line_at l.rank) (map (wait_of l.p) (range_with_len 0 l.k))
