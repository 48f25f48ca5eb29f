-- The hex digits of bytes.
use Rattle.std.proofs.Common.{◌≡◌, ℕ, zero, suc, ◌+◌, ◌/◌, ◌%◌, ◌<◌, ◌≤◌, ◌==◌, Bool, true, ◌&&◌}
use Rattle.std.proofs.Common.{if◌then◌else◌, List, [], ◌∷◌, ◌++◌, slice_index, inl, inr, refl, ap, ◌∙◌}
use Rattle.std.proofs.Common.{arith, rules}
use Rattle.std.specs.Prelude.{nat_lt, IsUtf8}
use Rattle.std.specs.Str.{IsAscii}
use Rattle.std.proofs.lemmas.Bool.{and_parts, cases_lt, eqb-true}
use Rattle.std.proofs.lemmas.Str.{IsUtf8-from_ascii}
use Rattle.std.proofs.lemmas.Str.Ascii.{IsAscii-from_reads}
use Rattle.hex.specs.Hex.{encode_lower, encode_with, lower_digits}
use Rattle.hex.proofs.HexLemmas.{IsAscii-encode_with}

-- the digit of a number, by its range
abbrev in_range : ℕ → ℕ
in_range n = if nat_lt n 10 then 48 + n else 87 + n

-- the first n digits are those by their ranges
abbrev are_in_range : ℕ → Bool
are_in_range zero = true
are_in_range (suc n) = slice_index lower_digits n == in_range n && are_in_range n

each_in_range : (n k : ℕ) → are_in_range n ≡ true → k < n → slice_index lower_digits k ≡ in_range k
each_in_range zero k are k<n = absurd (omega arith)
each_in_range (suc n) k are k<n =
    let parts = and_parts (slice_index lower_digits n == in_range n) (are_in_range n) are in
    elim (cases_lt k n) [
      | inl below ↦ each_in_range n k parts.1 below
      | inr top ↦
          let last : k ≡ n = omega arith in
          rw last (eqb-true (slice_index lower_digits n) (in_range n) parts.0)
    ]

-- the digits below ten
pub low_digit : (n : ℕ) → n < 10 → slice_index lower_digits n ≡ 48 + n
low_digit n n<10 = each_in_range 16 n refl (omega arith) ∙ grind arith

-- the digits from ten on
pub high_digit : (n : ℕ) → 10 ≤ n → n < 16 → slice_index lower_digits n ≡ 87 + n
high_digit n 10≤n n<16 = each_in_range 16 n refl n<16 ∙ grind arith

-- digits are ASCII
pub digits_are_text : (bytes : List ℕ) → IsUtf8 (encode_lower bytes)
digits_are_text bytes =
    let ascii : IsAscii lower_digits =
    IsAscii-from_reads lower_digits 16 (search rules)
    (λ k k<16. rw (each_in_range 16 k refl k<16) (grind arith)) in
    IsUtf8-from_ascii (encode_lower bytes) (IsAscii-encode_with lower_digits bytes ascii)

-- the digits of bytes and more bytes
pub digits_append : (xs ys : List ℕ) → encode_lower (xs ++ ys) ≡ encode_lower xs ++ encode_lower ys
unfolding encode_with
digits_append [] ys = refl
digits_append (x ∷ xs) ys =
    ap (λ ds. slice_index lower_digits (x / 16) ∷ slice_index lower_digits (x % 16) ∷ ds) (digits_append xs ys)

-- no bytes have no digits
pub no_digits : encode_lower [] ≡ []
unfolding encode_with
no_digits = refl
