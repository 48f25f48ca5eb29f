use Rattle.std.proofs.Common.{◌≡◌, ◌++◌, map}
use Rattle.std.specs.List.{range_with_len}
use Rattle.nm_plans.specs.Expansion.{line_at, start_of}
use Rattle.nm_plans.proofs.requests.expansions.push_starts.Given as goal

-- the lines of the parts so far are put
abbrev pub invariant-loop-k : goal.invariant-loop-k
invariant-loop-k l =
    l.out.items ≡ l.fn.out.items ++ map (line_at l.rank)
    (map (λ k. start_of l.p l.request k l.request.side) (range_with_len 0 l.k))
