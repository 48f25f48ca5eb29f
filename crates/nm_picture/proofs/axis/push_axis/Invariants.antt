use Rattle.std.proofs.Common.{◌≡◌, ◌+◌, ◌-◌, ◌++◌, flat_map, string_bytes}
use Rattle.std.specs.List.{range_with_len}
use Rattle.nm_picture.specs.Pictures.{axis_text, next_tick}
use Rattle.nm_picture.proofs.axis.push_axis.Given as goal

-- what is written and what is still to write are all
abbrev pub invariant-loop-k : goal.invariant-loop-k
invariant-loop-k l =
    string_bytes l.out ++ flat_map (next_tick l.frame) (range_with_len (l.k + 1) (l.count - l.k))
    ≡ string_bytes l.fn.out ++ axis_text l.frame
