use Rattle.std.proofs.Common.{◌≡◌, ◌++◌, drop, flat_map, string_bytes}
use Rattle.nm_why_texts.specs.Texts.{line_number}
use Rattle.nm_why_texts.proofs.texts.push_numbers.Given as goal

-- what is written and what is still to write are all
abbrev pub invariant-loop-place : goal.invariant-loop-place
invariant-loop-place l =
    string_bytes l.out ++ flat_map line_number (drop l.place-index l.places)
    ≡ string_bytes l.fn.out ++ flat_map line_number l.places
