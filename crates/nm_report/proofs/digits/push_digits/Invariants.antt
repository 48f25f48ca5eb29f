use Rattle.std.proofs.Common.{◌≡◌, ◌++◌, string_bytes}
use Rattle.std.specs.Slice.Iter.{chunks_rest, chunks_size}
use Rattle.hex.specs.Hex.{encode_lower}
use Rattle.nm_report.proofs.digits.push_digits.Given as goal

-- what is written and what is still to write are all
abbrev pub invariant-loop-part : goal.invariant-loop-part
invariant-loop-part l =
    goal.iterator-loop-part.can_next l.part-iterator
    × goal.iterator-loop-part.is_finite l.part-iterator
    × (chunks_size l.part-iterator ≡ 2048)
    × (string_bytes l.out ++ encode_lower (chunks_rest l.part-iterator)
    ≡ string_bytes l.fn.out ++ encode_lower l.bytes)
