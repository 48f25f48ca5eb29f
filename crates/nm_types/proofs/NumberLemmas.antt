-- When two numbers are equal, or one is below another: as a test and as a fact.
use Rattle.std.proofs.Common.{◌≡◌, ◌≢◌, ℕ, ◌+◌, ◌<◌, ◌≤◌, ◌==◌, true, false, arith}
use Rattle.std.specs.Prelude.{nat_eq, nat_lt}
use Rattle.std.proofs.lemmas.Bool.Decides.{nat_tests}

pub same_number : (x y : ℕ) → (x == y) ≡ true → x ≡ y
same_number x y h = grind (arith, nat_tests)

pub differ : (x y : ℕ) → (x == y) ≡ false → y ≢ x
differ x y h = grind (arith, nat_tests)

pub eq_true : (x y : ℕ) → x ≡ y → (x == y) ≡ true
eq_true x y h = grind (arith, nat_tests)

pub unequal : (x y : ℕ) → x ≢ y → (x == y) ≡ false
unequal x y h = grind (arith, nat_tests)

pub nat_unequal : (x y : ℕ) → x ≢ y → nat_eq x y ≡ false
nat_unequal x y h = grind (arith, nat_tests)

pub eq_false : (x y : ℕ) → y < x → (x == y) ≡ false
eq_false x y h = grind (arith, nat_tests)

pub eq_less : (x y : ℕ) → x < y → (x == y) ≡ false
eq_less x y h = grind (arith, nat_tests)

pub eq_later : (x y : ℕ) → x + 1 ≤ y → (x == y) ≡ false
eq_later x y h = grind (arith, nat_tests)

pub lt_false : (x y : ℕ) → y ≤ x → nat_lt x y ≡ false
lt_false x y h = grind (arith, nat_tests)
