use Rattle.std.proofs.Common.{◌≡◌, ◌++◌, drop, flat_map, string_bytes}
use Rattle.nm_report.specs.Events.{pair_line}
use Rattle.nm_report.proofs.events.push_pairs.Given as goal

-- what is written and what is still to write are all
abbrev pub invariant-loop-pair : goal.invariant-loop-pair
invariant-loop-pair l =
    string_bytes l.out ++ flat_map pair_line (drop l.pair-index l.pairs)
    ≡ string_bytes l.fn.out ++ flat_map pair_line l.pairs
