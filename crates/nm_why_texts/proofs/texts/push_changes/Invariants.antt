use Rattle.std.proofs.Common.{◌≡◌, ◌++◌, drop, flat_map, string_bytes}
use Rattle.nm_why_texts.specs.Texts.{change_line}
use Rattle.nm_why_texts.proofs.texts.push_changes.Given as goal

-- what is written and what is still to write are all
abbrev pub invariant-loop-change : goal.invariant-loop-change
invariant-loop-change l =
    string_bytes l.out ++ flat_map (change_line l.word) (drop l.change-index l.changes)
    ≡ string_bytes l.fn.out ++ flat_map (change_line l.word) l.changes
