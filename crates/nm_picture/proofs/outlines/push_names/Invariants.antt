use Rattle.std.proofs.Common.{◌≡◌, ◌+◌, ◌-◌, ◌++◌, flat_map, string_bytes}
use Rattle.std.specs.List.{range_with_len}
use Rattle.nm_picture.specs.Pictures.{name_count, name_text}
use Rattle.nm_picture.proofs.outlines.push_names.Given as goal

-- what is written and what is still to write are all
abbrev pub invariant-loop-k : goal.invariant-loop-k
invariant-loop-k l =
    string_bytes l.out ++ flat_map (name_text l.frame l.rank) (range_with_len (l.k + 1) (l.count - l.k))
    ≡ string_bytes l.fn.out ++ flat_map (name_text l.frame l.rank) (range_with_len 1 (name_count l.frame))
