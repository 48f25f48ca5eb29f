use Rattle.std.proofs.Common.{◌≡◌, ◌++◌, drop, flat_map, string_bytes}
use Rattle.nm_picture.specs.Markup.{escaped_byte}
use Rattle.nm_picture.proofs.words.push_escaped.Given as goal

-- what is written and what is still to write are all
abbrev pub invariant-loop-byte : goal.invariant-loop-byte
invariant-loop-byte l =
    string_bytes l.out ++ flat_map escaped_byte (drop l.byte-index l.byte-items)
    ≡ string_bytes l.fn.out ++ flat_map escaped_byte l.byte-items
