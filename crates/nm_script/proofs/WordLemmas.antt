-- Words with one space between each two, both ways.
use Rattle.std.proofs.Common.{◌≡◌, ℕ, ◌<◌, ◌^◌, Bool, true, false, ◌&&◌, List, [], ◌∷◌, ◌++◌, nat_le, refl}
use Rattle.std.proofs.Common.{ap, ◌∙◌, arith, eqb, leb, decimal}
use Rattle.std.specs.List.{AllByRecursion, join_with_byte, list_all}
use Rattle.std.specs.Str.Parse.{AllDigits}
use Rattle.std.specs.Int.{IsInRange}
use Rattle.std.proofs.lemmas.Bool.{and_from, and_parts}
use Rattle.std.proofs.lemmas.Bool.Decides.{nat_tests}
use Rattle.std.proofs.lemmas.List.Splits.{join_with_byte-slice_split}
use Rattle.std.proofs.lemmas.List.Folds.{list_all-append}
use Rattle.std.proofs.lemmas.Fmt.{decimal_is_IsNumeral}
use Rattle.std.proofs.lemmas.Str.Parse.{digit_from_value}
use Rattle.nm_script.specs.Digits.{is_lower_digit}
use Rattle.nm_script.specs.Lines.{is_printable, words_of}

-- a byte that may stand in a word
abbrev pub is_solid : ℕ → Bool
is_solid b = leb 33 b && leb b 126

-- the bytes of these words may all stand there
abbrev pub Solid : List (List ℕ) → Type 0
Solid words = AllByRecursion (λ word. list_all is_solid word ≡ true) words

pub solid_no_space : (b : ℕ) → is_solid b ≡ true → eqb b 32 ≡ false
solid_no_space b h = grind (arith, nat_tests)

solid_printable : (b : ℕ) → is_solid b ≡ true → (leb 32 b && leb b 126) ≡ true
solid_printable b h = grind (arith, nat_tests)

digit_solid : (c : ℕ) → IsInRange 48 57 c → is_solid c ≡ true
digit_solid c h = grind (arith, nat_tests)

lower_digit_solid : (c : ℕ) → is_lower_digit c ≡ true → is_solid c ≡ true
lower_digit_solid c h = grind (arith, nat_tests)

digits_solid : (ds : List ℕ) → AllDigits 10 ds → list_all is_solid ds ≡ true
digits_solid [] h = refl
digits_solid (c ∷ cs) h = and_from _ _ (digit_solid c (digit_from_value c h.0)) (digits_solid cs h.1)

pub decimal_solid : (n : ℕ) → n < 2 ^ 64 → list_all is_solid (decimal n) ≡ true
decimal_solid n h = digits_solid (decimal n) (decimal_is_IsNumeral n h).0.1

pub lower_solid : (ds : List ℕ) → list_all is_lower_digit ds ≡ true → list_all is_solid ds ≡ true
lower_solid [] h = refl
lower_solid (c ∷ cs) h =
    let p = and_parts (is_lower_digit c) (list_all is_lower_digit cs) h in
    and_from _ _ (lower_digit_solid c p.0) (lower_solid cs p.1)

-- the first word, and the others
split_word : (word bytes : List ℕ) → list_all is_solid word ≡ true
    → words_of (word ++ 32 ∷ bytes) ≡ word ∷ words_of bytes
split_word [] bytes solid = refl
split_word (b ∷ word) bytes solid =
    let p = and_parts (is_solid b) (list_all is_solid word) solid in
    rw (solid_no_space b p.0) (rw (split_word word bytes p.1) refl)

last_word : (word : List ℕ) → list_all is_solid word ≡ true → words_of word ≡ word ∷ []
last_word [] solid = refl
last_word (b ∷ word) solid =
    let p = and_parts (is_solid b) (list_all is_solid word) solid in
    rw (solid_no_space b p.0) (rw (last_word word p.1) refl)

-- words that are joined are those of the line
pub words_again : (word : List ℕ) (words : List (List ℕ)) → Solid (word ∷ words)
    → words_of (join_with_byte 32 (word ∷ words)) ≡ word ∷ words
words_again word [] solid = last_word word solid.0
words_again word (next ∷ words) solid = split_word word (join_with_byte 32 (next ∷ words)) solid.0 ∙
    ap (λ ws. word ∷ ws) (words_again next words solid.1)

-- and the line is its words
pub line_is : (line : List ℕ) → join_with_byte 32 (words_of line) ≡ line
line_is line = join_with_byte-slice_split 32 line

word_printable : (word : List ℕ) → list_all is_solid word ≡ true → is_printable word ≡ true
word_printable [] h = refl
word_printable (b ∷ word) h =
    let p = and_parts (is_solid b) (list_all is_solid word) h in
    and_from _ _ (solid_printable b p.0) (word_printable word p.1)

pub joined_printable : (word : List ℕ) (words : List (List ℕ)) → Solid (word ∷ words)
    → is_printable (join_with_byte 32 (word ∷ words)) ≡ true
joined_printable word [] solid = word_printable word solid.0
joined_printable word (next ∷ words) solid =
    list_all-append (λ b. nat_le 32 b && nat_le b 126) word (32 ∷ join_with_byte 32 (next ∷ words))
    ∙ and_from _ _ (word_printable word solid.0) (joined_printable next words solid.1)
