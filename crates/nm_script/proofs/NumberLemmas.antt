-- Numbers in decimal: their spellings, and the digits read so far.
use Rattle.std.proofs.Common.{◌≡◌, ℕ, zero, suc, ◌+◌, ◌-◌, ◌*◌, ◌<◌, ◌≤◌, ◌^◌, Bool, true, false}
use Rattle.std.proofs.Common.{not, ◌&&◌, ◌||◌, List, length, get_or, take, cond, nat_lt, Some, None}
use Rattle.std.proofs.Common.{refl, sym, ap, ◌∙◌, arith, eqb, decimal}
use Rattle.std.specs.Char.{digit_value}
use Rattle.std.specs.Str.{all_ascii_digits}
use Rattle.std.specs.Str.Parse.{digits_value, AllDigits}
use Rattle.std.specs.Int.{IsInRange}
use Rattle.std.proofs.lemmas.List.{take_all}
use Rattle.std.proofs.lemmas.Int.Digits.{digits_value_more, digits_more}
use Rattle.std.proofs.lemmas.Bool.{and_from, and_parts, ltb-true, lt-ltb}
use Rattle.std.proofs.lemmas.Bool.Decides.{nat_tests}
use Rattle.std.proofs.lemmas.Option.{cond_some}
use Rattle.std.proofs.lemmas.Str.Parse.{IsNumeralModel, numerals_by_value, tells_all_ascii_digits}
use Rattle.std.proofs.lemmas.Str.Parse.{digit_at, digits_value-take-le}
use Rattle.std.proofs.lemmas.Fmt.{digits_decimal, digits_value-decimal, decimal-digits_value}
use Rattle.std.proofs.lemmas.Fmt.{decimal_nonempty, first_decimal, decimal_digit, decimal_step}
use Rattle.std.proofs.lemmas.Fmt.{length-decimal-le}
use Rattle.std.proofs.Common.{◌/◌, ◌%◌, [], ◌∷◌, length-append, lit≤}
use Rattle.nm_script.specs.Decimal.{is_plain, number_of}

-- std's words for digits and their value
pub own : IsNumeralModel (λ ds. all_ascii_digits ds ≡ true) (digits_value 10)
own = numerals_by_value _ tells_all_ascii_digits

-- what the test says
pub record IsPlain (bs : List ℕ) : Type 0 where
  pub some : 0 < length bs
  pub first : get_or bs 0 0 ≡ 48 → length bs ≡ 1
  pub digits : all_ascii_digits bs ≡ true

some_first : (n first : ℕ) → (nat_lt 0 n && (not (eqb first 48) || eqb n 1)) ≡ true
    → (0 < n) × (first ≡ 48 → n ≡ 1)
some_first n first h = (grind (arith, nat_tests), λ e. grind (arith, nat_tests))

first_some : (n first : ℕ) → 0 < n → (first ≡ 48 → n ≡ 1)
    → (nat_lt 0 n && (not (eqb first 48) || eqb n 1)) ≡ true
first_some n first some one = grind (arith, nat_tests)

pub plain_parts : (bs : List ℕ) → is_plain bs ≡ true → IsPlain bs
plain_parts bs h =
    let p = and_parts (nat_lt 0 (length bs) && (not (eqb (get_or bs 0 0) 48) || eqb (length bs) 1))
    (all_ascii_digits bs) h in
    let q = some_first (length bs) (get_or bs 0 0) p.0 in
    record { some = q.0; first = q.1; digits = p.1 }

pub plain_from : (bs : List ℕ) → IsPlain bs → is_plain bs ≡ true
plain_from bs p = and_from _ _ (first_some (length bs) (get_or bs 0 0) p.some p.first) p.digits

-- what is taken is a spelling
pub number_taken : (limit n : ℕ) (bs : List ℕ) → limit ≤ 2 ^ 64 → number_of limit bs ≡ Some n
    → (n < limit) × (bs ≡ decimal n)
number_taken limit n bs small h =
    let p = cond_some (is_plain bs && nat_lt (digits_value 10 bs) limit) (digits_value 10 bs) n h in
    let q = and_parts (is_plain bs) (nat_lt (digits_value 10 bs) limit) p.0 in
    let r = plain_parts bs q.0 in
    let below = ltb-true (digits_value 10 bs) limit q.1 in
    let spelled : decimal (digits_value 10 bs) ≡ bs = decimal-digits_value own bs r.digits r.some
    r.first (omega arith) in
    (omega (arith, p.1, below), sym spelled ∙ ap decimal p.1)

first_zero : (n : ℕ) → n < 2 ^ 64 → get_or (decimal n) 0 0 ≡ 48 → length (decimal n) ≡ 1
first_zero zero h e = ap length (decimal_digit 0 (omega arith))
first_zero (suc n) h e = absurd (omega (arith, first_decimal (suc n) (omega arith) h))

chosen : (b : Bool) (m n : ℕ) → b ≡ true → m ≡ n → cond b (Some m) None ≡ Some n
chosen b m n h e = rw h (ap Some e)

-- each spelling is taken
pub number_again : (limit n : ℕ) → limit ≤ 2 ^ 64 → n < limit → number_of limit (decimal n) ≡ Some n
number_again limit n small h =
    let fits : n < 2 ^ 64 = omega arith in
    let value : digits_value 10 (decimal n) ≡ n = digits_value-decimal own n fits in
    let plain = plain_from (decimal n) (record {
      some = decimal_nonempty n fits;
      first = first_zero
          n fits;
      digits = digits_decimal own n fits;
    }) in
    let below : digits_value 10 (decimal n) < limit = omega arith in
    chosen _ _ n (and_from _ _ plain (lt-ltb (digits_value 10 (decimal n)) limit below)) value

none_unless : (b : Bool) (n : ℕ) → (b ≡ true → ⊥) → cond b (Some n) None ≡ None
none_unless true n h = absurd (h refl)
none_unless false n h = refl

-- what is refused
pub number_refused : (limit : ℕ) (bs : List ℕ) → (IsPlain bs → digits_value 10 bs < limit → ⊥)
    → number_of limit bs ≡ None
number_refused limit bs h = none_unless _ _ (λ e.
    let p = and_parts (is_plain bs) (nat_lt (digits_value 10 bs) limit) e in
    h (plain_parts bs p.0) (ltb-true (digits_value 10 bs) limit p.1))

-- a byte that is no digit
pub no_digit : (limit i : ℕ) (bs : List ℕ) → i < length bs → ¬ (IsInRange 48 57 (get_or bs i 0))
    → number_of limit bs ≡ None
no_digit limit i bs within other = number_refused limit bs
    (λ p _. other (digit_at bs i (own.to bs p.digits) within))

-- a front that is too large
pub too_large : (limit i : ℕ) (bs : List ℕ) → limit ≤ digits_value 10 (take i bs)
    → number_of limit bs ≡ None
too_large limit i bs large = number_refused limit bs
    (λ _ below. omega (arith, digits_value-take-le 10 bs i (omega arith)))

pub digit_is : (c : ℕ) → IsInRange 48 57 c → digit_value c ≡ c - 48
digit_is c h = grind (arith, nat_tests)

-- one more digit
pub one_more : (bs : List ℕ) (i value digit : ℕ) → i < length bs → IsInRange 48 57 (get_or bs i 0)
    → value ≡ digits_value 10 (take i bs) → digit ≡ get_or bs i 0 - 48
    → value * 10 + digit ≡ digits_value 10 (take (i + 1) bs)
one_more bs i value digit within range so_far d =
    let e = digits_value_more 10 bs i within in
    let f = digit_is (get_or bs i 0) range in
    omega (arith, e, f)

pub one_more_digit : (bs : List ℕ) (i : ℕ) → i < length bs → IsInRange 48 57 (get_or bs i 0)
    → AllDigits 10 (take i bs) → AllDigits 10 (take (i + 1) bs)
one_more_digit bs i within range digits = digits_more 10 bs i within digits
    (omega (arith, digit_is (get_or bs i 0) range))

-- all of the bytes
pub number_whole : (limit i value : ℕ) (bs : List ℕ) → length bs ≤ i → 0 < length bs
    → (get_or bs 0 0 ≡ 48 → length bs ≡ 1) → AllDigits 10 (take i bs)
    → value ≡ digits_value 10 (take i bs) → value < limit → Some value ≡ number_of limit bs
number_whole limit i value bs past some first digits so_far below =
    let whole : take i bs ≡ bs = take_all i bs past in
    let all : AllDigits 10 bs = rw whole at digits in
    let is : value ≡ digits_value 10 bs = so_far ∙ ap (digits_value 10) whole in
    let plain = plain_from bs (record { some = some; first = first; digits = own.from bs all }) in
    sym (chosen _ _ value (and_from _ _ plain (lt-ltb (digits_value 10 bs) limit (omega arith))) (sym is))

-- how many digits there are
pub few_digits : (n : ℕ) → n < 2 ^ 64 → length (decimal n) ≤ 20
few_digits n small = length-decimal-le 20 n (lit≤ tt) (omega arith) small

pub one_digit : (n : ℕ) → n < 10 → length (decimal n) ≡ 1
one_digit n h = ap length (decimal_digit n h)

pub one_digit_less : (n : ℕ) → 10 ≤ n → n < 2 ^ 64
    → length (decimal n) ≡ length (decimal (n / 10)) + 1
one_digit_less n h small = ap length (decimal_step n h small)
    ∙ length-append (decimal (n / 10)) ((48 + n % 10) ∷ [])
