-- Hex digits in lower case, both ways.
use Rattle.std.proofs.Common.{◌≡◌, ℕ, zero, suc, ◌+◌, ◌*◌, ◌/◌, ◌%◌, ◌<◌, Bool, true, ◌&&◌}
use Rattle.std.proofs.Common.{List, [], ◌∷◌, length, get_or, Ok, Option, Some, None, cond}
use Rattle.std.proofs.Common.{refl, ◌∙◌, arith, eqb, ltb, nat_lt}
use Rattle.std.specs.List.{list_all}
use Rattle.std.proofs.lemmas.Bool.{and_from, and_parts, ltb-true, lt-ltb}
use Rattle.std.proofs.lemmas.Bool.Decides.{nat_tests, Decides-below_and, Decides-eqb}
use Rattle.hex.specs.Hex.{encode_lower, encode_with, lower_digits, decode_pairs, pair_value}
use Rattle.hex.specs.Hex.{value_at, digit_or_error, hex_digit_value, IsBytes}
use Rattle.nm_script.specs.Digits.{is_lower_digit}
use Rattle.nm_script.proofs.WordsStepLemmas.{bind_ok}

-- the digit of a value, without the table
abbrev glyph : ℕ → ℕ
glyph v = cond (ltb v 10) (48 + v) (87 + v)

abbrev all_glyphs : ℕ → Bool
all_glyphs zero = true
all_glyphs (suc n) = eqb (get_or lower_digits n 0) (glyph n) && all_glyphs n

table_is : (v : ℕ) → v < 16 → get_or lower_digits v 0 ≡ glyph v
table_is = (Decides-below_and (λ v. eqb (get_or lower_digits v 0) (glyph v))
    (λ v. get_or lower_digits v 0 ≡ glyph v) all_glyphs (λ v. Decides-eqb _ _) refl (λ _. refl)
    16).0 refl

glyph_of : (c v : ℕ) → is_lower_digit c ≡ true → hex_digit_value c ≡ Some v → (v < 16) × (glyph v ≡ c)
glyph_of c v low h = grind (arith, nat_tests)

glyph_lower : (v : ℕ) → v < 16 → is_lower_digit (glyph v) ≡ true
glyph_lower v h = grind (arith, nat_tests)

value_ok : (c i : ℕ) (o : Option ℕ) (v : ℕ) → digit_or_error c i o ≡ Ok v → o ≡ Some v
value_ok c i (Some w) v h = cc
value_ok c i None v h = cc

-- digits in lower case are what the bytes are written as
pub lower_pairs : (i : ℕ) (s bytes : List ℕ) → list_all is_lower_digit s ≡ true → decode_pairs i s ≡ Ok bytes
    → s ≡ encode_lower bytes
unfolding decode_pairs encode_with
lower_pairs i [] bytes low h = let e : [] ≡ bytes = cc in rw (← e) refl
lower_pairs i (d ∷ []) bytes low h = cc
lower_pairs i (a ∷ b ∷ s) bytes low h =
    let first = bind_ok (pair_value a b i) _ bytes h in
    let rest = bind_ok (decode_pairs (i + 2) s) _ bytes first.2 in
    let high = bind_ok (value_at a i) _ first.0 first.1 in
    let small = bind_ok (value_at b (i + 1)) _ first.0 high.2 in
    let la = and_parts (is_lower_digit a) (is_lower_digit b && list_all is_lower_digit s) low in
    let lb = and_parts (is_lower_digit b) (list_all is_lower_digit s) la.1 in
    let ga = glyph_of a high.0 la.0 (value_ok a i (hex_digit_value a) high.0 high.1) in
    let gb = glyph_of b small.0 lb.0 (value_ok b (i + 1) (hex_digit_value b) small.0 small.1) in
    let byte : first.0 ≡ high.0 * 16 + small.0 = cc (small.2) in
    let others = lower_pairs (i + 2) s rest.0 lb.1 rest.1 in
    let whole : first.0 ∷ rest.0 ≡ bytes = cc (rest.2) in
    let top : first.0 / 16 ≡ high.0 = omega arith in
    let low_part : first.0 % 16 ≡ small.0 = omega arith in
    let one : get_or lower_digits (first.0 / 16) 0 ≡ a = rw top (table_is high.0 ga.0 ∙ ga.1) in
    let two : get_or lower_digits (first.0 % 16) 0 ≡ b = rw low_part (table_is small.0 gb.0 ∙ gb.1) in
    rw (← whole) (cc (one, two, others))

-- what is written has digits in lower case alone
pub all_lower : (bytes : List ℕ) → IsBytes bytes → list_all is_lower_digit (encode_lower bytes) ≡ true
unfolding encode_with
all_lower [] small = refl
all_lower (b ∷ bytes) small =
    let fits : b < 256 = small 0 in
    let high : b / 16 < 16 = omega arith in
    let low : b % 16 < 16 = omega arith in
    and_from _ _ (rw (table_is (b / 16) high) (glyph_lower (b / 16) high))
    (and_from _ _ (rw (table_is (b % 16) low) (glyph_lower (b % 16) low))
    (all_lower bytes (λ i. small (suc i))))

pub bytes_within : (bytes : List ℕ) → ((i : ℕ) → i < length bytes → get_or bytes i 0 < 256)
    → list_all (λ b. nat_lt b 256) bytes ≡ true
bytes_within [] h = refl
bytes_within (b ∷ bytes) h = and_from _ _ (lt-ltb b 256 (h 0 (omega arith)))
    (bytes_within bytes (λ i within. h (suc i) (omega arith)))

-- the test of bytes, and the fact
pub bytes_pass : (bytes : List ℕ) → IsBytes bytes → list_all (λ b. nat_lt b 256) bytes ≡ true
bytes_pass [] h = refl
bytes_pass (b ∷ bytes) h = and_from _ _ (lt-ltb b 256 (h 0)) (bytes_pass bytes (λ i. h (suc i)))

pub bytes_are : (bytes : List ℕ) → list_all (λ b. nat_lt b 256) bytes ≡ true → IsBytes bytes
bytes_are [] h i = omega arith
bytes_are (b ∷ bytes) h zero = ltb-true b 256 (and_parts (nat_lt b 256)
    (list_all (λ b. nat_lt b 256) bytes) h).0
bytes_are (b ∷ bytes) h (suc i) = bytes_are bytes (and_parts (nat_lt b 256)
    (list_all (λ b. nat_lt b 256) bytes) h).1 i
