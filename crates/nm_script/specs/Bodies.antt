-- Bodies as words: `x` and hex digits in lower case, or `g` and how many bytes are generated.
use Rattle.std.specs.Prelude.{ℕ, ◌+◌, ◌*◌, ◌&&◌, ◌==◌, List, [], ◌∷◌, length}
use Rattle.std.specs.Prelude.{Option, Some, None, Result, Ok, Err, nat_le, if◌then◌else◌}
use Rattle.std.specs.List.{list_all}
use Rattle.hex.specs.Hex.{decode_of}
use Rattle.hex.specs.declared.error.FromHexError.{FromHexError}
use Rattle.nm_types.specs.declared.limits.TheConstants.{MAX_BODY}
use Rattle.nm_types.specs.declared.scripts.Body.{Body}
use Rattle.nm_types.specs.declared.scripts.Body.TheVariants.{Hex, Gen}
use Rattle.nm_script.specs.declared.faults.Kind.{Kind}
use Rattle.nm_script.specs.declared.faults.Kind.TheVariants as kind
use Rattle.nm_script.specs.Decimal.{number_of}
use Rattle.nm_script.specs.Digits.{is_lower_digit}

-- the body of the bytes, if there are any
abbrev pub hex_body : Result (List ℕ) FromHexError → Result Body Kind
hex_body (Ok bytes) = Ok (Hex bytes)
hex_body (Err e) = Err kind.Body

-- the body that hex digits spell
unfoldable pub hex_of : List ℕ → Result Body Kind
hex_of digits =
    if nat_le (length digits) (2 * MAX_BODY) && list_all is_lower_digit digits
    then hex_body (decode_of digits)
    else Err kind.Body

-- a generated body, if there is a length
abbrev pub generated_body : Option ℕ → Result Body Kind
generated_body (Some len) = Ok (Gen len)
generated_body None = Err kind.Body

-- the generated body whose length a number spells
unfoldable pub generated_of : List ℕ → Result Body Kind
generated_of digits = generated_body (number_of (MAX_BODY + 1) digits)

-- the body that a word spells
unfoldable pub body_of : List ℕ → Result Body Kind
body_of [] = Err kind.Body
body_of (b ∷ rest) =
    if b == 120 then hex_of rest else if b == 103 then generated_of rest else Err kind.Body
