-- Numbers in decimal.
use Rattle.std.specs.Prelude.{ℕ, Bool, not, ◌&&◌, ◌||◌, ◌==◌, List, length, slice_index}
use Rattle.std.specs.Prelude.{Option, Some, None, nat_lt, if◌then◌else◌}
use Rattle.std.specs.Str.{all_ascii_digits}
use Rattle.std.specs.Str.Parse.{digits_value}

-- `0`, or digits that don't begin with `0`
abbrev pub is_plain : List ℕ → Bool
is_plain bytes =
    nat_lt 0 (length bytes) && (not (slice_index bytes 0 == 48) || length bytes == 1)
    && all_ascii_digits bytes

-- the number below the limit that the bytes spell
abbrev pub number_of : ℕ → List ℕ → Option ℕ
number_of limit bytes =
    if is_plain bytes && nat_lt (digits_value 10 bytes) limit then Some (digits_value 10 bytes)
    else None
