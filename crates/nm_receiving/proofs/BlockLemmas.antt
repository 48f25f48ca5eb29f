-- Numbers in blocks of 64.
use Rattle.std.proofs.Common.{◌≡◌, ℕ, ◌*◌, ◌/◌, ◌%◌, ◌^◌, ◌<◌, ◌==◌, Bool, true, false, ◌||◌, cond, List}
use Rattle.std.proofs.Common.{Option, Some, None, nat_eq, bit_or, refl, sym, ap, ◌∙◌, arith, w64}
use Rattle.std.proofs.Math.Bool.{or-true}
use Rattle.std.proofs.lemmas.Nat.Bits.{bit_at_set_other, bit_at_set_same}
use Rattle.std.specs.Int.{bit_at}
use Rattle.std.specs.Map.{lookup}
use Rattle.std.specs.Option.{option_map_or}
use Rattle.nm_types.proofs.NumberLemmas.{differ, eq_true, nat_unequal, same_number, unequal}
use Rattle.nm_history.proofs.Basic.{or_false}
use Rattle.nm_receiving.specs.StreamViews.{bits_in, stands}

-- a bit more is set
pub set-bit : (bits n k : ℕ)
    → (bit_at (bit_or bits (1 * 2 ^ (n % 64) % 2 ^ 64)) k == 1) ≡ (bit_at bits k == 1 || n % 64 == k)
set-bit bits n k = at (n % 64 == k) refl where
  within : n % 64 < 64
  within = omega arith

  at : (b : Bool) → (n % 64 == k) ≡ b
      → (bit_at (bit_or bits (1 * 2 ^ (n % 64) % 2 ^ 64)) k == 1) ≡ (bit_at bits k == 1 || b)
  at true e =
      ap (λ (j : ℕ). bit_at (bit_or bits (1 * 2 ^ (n % 64) % 2 ^ 64)) j == 1) (sym (same_number (n % 64) k e))
      ∙ ap (λ (x : ℕ). x == 1) (bit_at_set_same w64 bits (n % 64) within)
      ∙ sym (or-true (bit_at bits k == 1))
  at false e =
      ap (λ (x : ℕ). x == 1) (bit_at_set_other w64 bits (n % 64) within k (differ (n % 64) k e))
      ∙ sym (or_false (bit_at bits k == 1))

-- in one block two numbers are equal where their places are
same-place : (n m : ℕ) → n / 64 ≡ m / 64 → (n % 64 == m % 64) ≡ (n == m)
same-place n m block = at (n == m) refl where
  at : (b : Bool) → (n == m) ≡ b → (n % 64 == m % 64) ≡ b
  at true e = eq_true (n % 64) (m % 64) (ap (λ (x : ℕ). x % 64) (same_number n m e))
  at false e =
      let apart = differ n m e in
      unequal (n % 64) (m % 64) (λ same. apart (omega (arith, block, same)))

-- numbers of two blocks are two
other-block : (n m : ℕ) → nat_eq (n / 64) (m / 64) ≡ false → (n == m) ≡ false
other-block n m other =
    let apart = differ (n / 64) (m / 64) other in
    unequal n m (λ same. apart (ap (λ (x : ℕ). x / 64) (sym same)))

-- what one block of a map is now, and the others as before
module _ (old new : List (ℕ × ℕ)) (block : ℕ) (bits : Option ℕ)
    (step : (q : ℕ) → lookup (nat_eq q) new ≡ cond (nat_eq block q) bits (lookup (nat_eq q) old)) (m : ℕ) where
  stands-in : (b : Bool) → nat_eq block (m / 64) ≡ b → stands new m
      ≡ (bit_at (option_map_or (λ x. x) (cond b bits (lookup (nat_eq (m / 64)) old)) 0) (m % 64) == 1)
  stands-in b is =
      ap (λ (o : Option ℕ). bit_at (option_map_or (λ x. x) o 0) (m % 64) == 1)
      (step (m / 64) ∙ ap (λ (c : Bool). cond c bits (lookup (nat_eq (m / 64)) old)) is)

-- a number is put into its block
pub insert-stands : (old new : List (ℕ × ℕ)) (n bits : ℕ)
    → ((q : ℕ) → lookup (nat_eq q) new ≡ cond (nat_eq (n / 64) q) (Some bits) (lookup (nat_eq q) old))
    → ((k : ℕ) → (bit_at bits k == 1) ≡ (bit_at (bits_in old (n / 64)) k == 1 || n % 64 == k))
    → (m : ℕ) → stands new m ≡ (stands old m || n == m)
insert-stands old new n bits step bit m = at (nat_eq (n / 64) (m / 64)) refl where
  at : (b : Bool) → nat_eq (n / 64) (m / 64) ≡ b → stands new m ≡ (stands old m || n == m)
  at true is =
      let same = same_number (n / 64) (m / 64) is in
      stands-in old new (n / 64) (Some bits) step m true is
      ∙ bit (m % 64)
      ∙ ap (λ (x : ℕ). bit_at (bits_in old x) (m % 64) == 1 || n % 64 == m % 64) same
      ∙ ap (λ (b : Bool). stands old m || b) (same-place n m same)
  at false is =
      stands-in old new (n / 64) (Some bits) step m false is
      ∙ sym (or_false (stands old m)) ∙ ap (λ (b : Bool). stands old m || b) (sym (other-block n m is))

-- a block is let go whose last number is below
pub forget-stands : (old new : List (ℕ × ℕ)) (n : ℕ)
    → ((q : ℕ) → lookup (nat_eq q) new ≡ cond (nat_eq (n / 64) q) None (lookup (nat_eq q) old))
    → n % 64 ≡ 63 → (m : ℕ) → n < m → stands new m ≡ stands old m
forget-stands old new n step last m above =
    stands-in old new (n / 64) None step m false
    (nat_unequal (n / 64) (m / 64) (λ same. let no : ⊥ = omega (arith, last, above, same) in no))
