-- The bytes of a generated body from some place on.
use Rattle.std.proofs.Common.{◌≡◌, ℕ, zero, suc, ◌+◌, ◌-◌, ◌≤◌, take, drop, map, sym, ap, ◌∙◌, arith}
use Rattle.std.proofs.Common.{◌<◌, ◌⊎◌, inl, inr, List, length, length-drop, min}
use Rattle.std.proofs.Common.{◌*◌, ◌∷◌, refl, ap₂}
use Rattle.std.proofs.lemmas.Bool.{cases_lt}
use Rattle.std.proofs.lemmas.List.{drop-map, take_all}
use Rattle.std.proofs.lemmas.List.FromFn.{take-map-range_with_len}
use Rattle.std.specs.List.{range_with_len}
use Rattle.nm_types.specs.Bodies.{generated_byte}

-- the numbers behind the first k of a range
pub drop-range : (k a n : ℕ) → k ≤ n → drop k (range_with_len a n) ≡ range_with_len (k + a) (n - k)
drop-range zero a n within =
    let first : a ≡ 0 + a = omega arith in
    let many : n ≡ n - 0 = omega arith in
    ap (λ b. range_with_len b n) first ∙ ap (range_with_len (0 + a)) many
drop-range (suc k) a zero within = absurd (omega arith)
drop-range (suc k) a (suc n) within =
    let next : k + (a + 1) ≡ suc k + a = omega arith in
    let many : n - k ≡ suc n - suc k = omega arith in
    drop-range k (a + 1) n (omega arith) ∙ ap (λ b. range_with_len b (n - k)) next
    ∙ ap (range_with_len (suc k + a)) many

-- so many bytes of a generated body from a place on
pub generated-range : (start room len : ℕ) → start + room ≤ len →
    map generated_byte (range_with_len start room) ≡ take room (drop start (map generated_byte (range_with_len 0 len)))
generated-range start room len within =
    let there : start + 0 ≡ start = omega arith in
    sym (ap (take room) (drop-map generated_byte start (range_with_len 0 len)
    ∙ ap (map generated_byte) (drop-range start 0 len (omega arith) ∙ ap (λ a. range_with_len a (len - start)) there))
    ∙ take-map-range_with_len generated_byte start (len - start) room (omega arith))

-- as many bytes as there are, but at most so many
pub up_to_the_end : (xs : List ℕ) (start most size : ℕ) → size ≡ min (length xs - start) most →
    take size (drop start xs) ≡ take most (drop start xs)
up_to_the_end xs start most size is = by (cases_lt (length xs - start) most)
  where
    by : (length xs - start < most) ⊎ (most ≤ length xs - start) →
        take size (drop start xs) ≡ take most (drop start xs)
    by (inl few) =
        take_all size (drop start xs) (omega (arith, is, length-drop start xs))
        ∙ sym (take_all most (drop start xs) (omega (arith, length-drop start xs)))
    by (inr many) = ap (λ n. take n (drop start xs)) (let e : size ≡ most = omega (arith, is) in e)

-- a generated body repeats itself
pub generated-again : (n a b q : ℕ) → a ≡ b + 251 * q
    → map generated_byte (range_with_len a n) ≡ map generated_byte (range_with_len b n)
generated-again zero a b q is = refl
generated-again (suc n) a b q is =
    let first : generated_byte a ≡ generated_byte b = omega (arith, is) in
    ap₂ (λ x xs. x ∷ xs) first (generated-again n (a + 1) (b + 1) q (omega (arith, is)))
