use Rattle.std.proofs.Common.{◌≡◌, ◌≤◌, ◌++◌, drop, string_bytes}
use Rattle.std.specs.List.{filter}
use Rattle.nm_diagram.specs.Legend.{is_used, legend_of}
use Rattle.nm_picture.specs.Pictures.{rows_text}
use Rattle.nm_diagram.specs.Signs.{all_signs}
use Rattle.nm_picture.proofs.legend.push_legend.Given as goal

-- what is written and what is still to write are all
abbrev pub invariant-loop-sign : goal.invariant-loop-sign
invariant-loop-sign l =
    (string_bytes l.out ++ rows_text l.row (filter (is_used l.frame.span l.ranks) (drop l.sign-index l.sign-items))
    ≡ string_bytes l.fn.out ++ rows_text 0 (legend_of l.frame.span l.ranks))
    × (l.row ≤ l.sign-index) × (l.sign-items ≡ all_signs)
