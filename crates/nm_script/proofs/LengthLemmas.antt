-- How long lines are.
use Rattle.std.proofs.Common.{◌≡◌, ℕ, ◌+◌, ◌*◌, List, [], ◌∷◌, ◌++◌, length, arith, codes, decimal}
use Rattle.std.proofs.Common.{length-append}
use Rattle.std.specs.List.{join_with_byte}
use Rattle.hex.specs.Hex.{encode_lower, lower_digits}
use Rattle.hex.proofs.HexLemmas.{length-encode_with}
use Rattle.nm_types.specs.declared.scripts.Line.{Line}
use Rattle.nm_types.specs.Text.{command_line, text_line, words}
use Rattle.nm_script.specs.Lengths.{ended_len}

-- a space behind each word but the last, and a line feed behind that
pub text_line_len : (word : List ℕ) (ws : List (List ℕ))
    → length (text_line (word ∷ ws)) ≡ ended_len (word ∷ ws)
text_line_len word [] = omega (arith, length-append word (10 ∷ []))
text_line_len word (next ∷ ws) =
    let rest = text_line_len next ws in
    let line = join_with_byte 32 (next ∷ ws) in
    let one = length-append (word ++ 32 ∷ line) (10 ∷ []) in
    let two = length-append word (32 ∷ line) in
    let three = length-append line (10 ∷ []) in
    omega (arith, rest, one, two, three)

pub command_line_len : (line : Line)
    → length (command_line line) ≡ 2 + length (decimal line.rank) + ended_len (words line.command)
command_line_len line =
    let whole = text_line_len (decimal line.rank ++ codes ":") (words line.command) in
    let rank = length-append (decimal line.rank) (58 ∷ []) in
    omega (arith, whole, rank)

pub hex_len : (bytes : List ℕ) → length (encode_lower bytes) ≡ 2 * length bytes
hex_len bytes = omega (arith, length-encode_with lower_digits bytes)
