use Rattle.std.proofs.Common.{◌≡◌, ◌-◌, ◌^◌, min, take, sum_by}
use Rattle.nm_diagram.specs.Frames.{later_count}
use Rattle.nm_diagram.proofs.frames.count_left_out.Given as goal

abbrev pub invariant-loop-account : goal.invariant-loop-account
invariant-loop-account l =
    l.count ≡ min (sum_by (later_count l.end) (take l.account-index l.ranks)) (2 ^ 64 - 1)
