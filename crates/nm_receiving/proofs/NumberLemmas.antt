-- What a new number adds to those that are counted or stand apart.
use Rattle.std.proofs.Common.{◌≡◌, ℕ, ◌+◌, ◌==◌, ◌<◌, ◌%◌, Bool, true, false, ◌||◌, List, [], ◌∷◌, ◌++◌}
use Rattle.std.proofs.Common.{nat_lt, refl, sym, ap, ◌∙◌, arith}
use Rattle.std.proofs.Math.Bool.{or-true}
use Rattle.std.proofs.lemmas.Bool.Decides.{nat_tests}
use Rattle.std.proofs.lemmas.List.Folds.{list_any-append}
use Rattle.std.proofs.lemmas.Nat.Bits.{bit_at-zero}
use Rattle.nm_types.proofs.NumberLemmas.{same_number}
use Rattle.nm_history.specs.Continues.{has}
use Rattle.nm_history.proofs.Basic.{or_false}
use Rattle.nm_receiving.specs.StreamViews.{counts, stands}

pub has-push : (ks : List ℕ) (n m : ℕ) → has (ks ++ n ∷ []) m ≡ (has ks m || n == m)
has-push ks n m =
    list_any-append (λ (k : ℕ). k == m) ks (n ∷ []) ∙ ap (λ (b : Bool). has ks m || b) (or_false (n == m))

or_joined : (a b c : Bool) → (a || (b || c)) ≡ ((a || b) || c)
or_joined true b c = refl
or_joined false b c = refl

-- one more stands apart
pub counts-apart : (next : ℕ) (old new : List (ℕ × ℕ)) (n m : ℕ) → stands new m ≡ (stands old m || n == m)
    → counts next new m ≡ (counts next old m || n == m)
counts-apart next old new n m step =
    ap (λ (b : Bool). nat_lt m next || b) step ∙ or_joined (nat_lt m next) (stands old m) (n == m)

-- the next one is counted, and those above it stand apart as before
pub counts-next : (n : ℕ) (old new : List (ℕ × ℕ)) (m : ℕ) → (n < m → stands new m ≡ stands old m)
    → counts (n + 1) new m ≡ (counts n old m || n == m)
counts-next n old new m step = at (n == m) refl (nat_lt m n) refl (stands new m) (stands old m) step where
  at : (same : Bool) → (n == m) ≡ same → (low : Bool) → nat_lt m n ≡ low → (b c : Bool) → (n < m → b ≡ c)
      → (nat_lt m (n + 1) || b) ≡ ((low || c) || same)
  at true e low f b c is =
      let below : nat_lt m (n + 1) ≡ true = grind (arith, nat_tests) in
      rw below (sym (or-true (low || c)))
  at false e true f b c is =
      let below : nat_lt m (n + 1) ≡ true = grind (arith, nat_tests) in
      rw below refl
  at false e false f b c is =
      let above : nat_lt m (n + 1) ≡ false = grind (arith, nat_tests) in
      let after : n < m = grind (arith, nat_tests) in
      rw above (is after ∙ sym (or_false c))

-- where the next one stands apart it is no new one
pub counts-there : (n : ℕ) (blocks : List (ℕ × ℕ)) (m : ℕ) → stands blocks n ≡ true
    → (counts n blocks m || n == m) ≡ counts n blocks m
counts-there n blocks m there = at (n == m) refl where
  at : (same : Bool) → (n == m) ≡ same → (counts n blocks m || same) ≡ counts n blocks m
  at true e =
      let here : stands blocks m ≡ true = ap (λ (k : ℕ). stands blocks k) (sym (same_number n m e)) ∙ there in
      or-true (counts n blocks m) ∙ sym (ap (λ (b : Bool). nat_lt m n || b) here ∙ or-true (nat_lt m n))
  at false e = or_false (counts n blocks m)

-- none is counted before the first
pub counts-none : (m : ℕ) → false ≡ counts 0 [] m
counts-none m =
    let none : nat_lt m 0 ≡ false = grind (arith, nat_tests) in
    sym (ap (λ (b : Bool). b || stands [] m) none ∙ ap (λ (k : ℕ). k == 1) (bit_at-zero (m % 64)))
