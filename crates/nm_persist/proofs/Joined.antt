-- The parts of a body, joined, are the body.
use Rattle.std.proofs.Common.{◌≡◌, ℕ, ◌+◌, ◌-◌, ◌*◌, ◌/◌, ◌<◌, ◌≤◌, zero, suc, List, [], ◌∷◌, ◌++◌, length, map, take}
use Rattle.std.proofs.Common.{drop}
use Rattle.std.proofs.Common.{refl, sym, ◌∙◌, ap, arith, append-nil}
use Rattle.std.specs.Prelude.{flat_map}
use Rattle.std.specs.List.{range_with_len}
use Rattle.std.proofs.lemmas.List.Concat.{flat_map-append}
use Rattle.std.proofs.lemmas.List.FromFn.{map-range_with_len_more}
use Rattle.std.proofs.Math.Nat.{mul-div_cancel_left, zero-div}
use Rattle.nm_plans.specs.Expansion.{part_of, part_start}
use Rattle.nm_plans.proofs.PartLemmas.{starts_rise}

-- a front and what is between it and a longer one
front_more : (xs : List ℕ) (a b : ℕ) → a ≤ b → take a xs ++ take (b - a) (drop a xs) ≡ take b xs
front_more xs zero b le = ap (λ (n : ℕ). take n xs) (sub_zero b)
  where
    sub_zero : (b : ℕ) → b - 0 ≡ b
    sub_zero b = omega arith
front_more xs (suc a) zero le = absurd (omega (arith, le))
front_more [] (suc a) (suc b) le = none (suc b - suc a)
  where
    none : (n : ℕ) → ◌≡◌ {A = List ℕ} (take n []) []
    none zero = refl
    none (suc n) = refl
front_more (x ∷ xs) (suc a) (suc b) le =
    ap (λ (ys : List ℕ). x ∷ ys) (ap (λ (n : ℕ). take a xs ++ take n (drop a xs)) (same a b)
    ∙ front_more xs a b (omega (arith, le)))
  where
    same : (a b : ℕ) → suc b - suc a ≡ b - a
    same a b = omega arith

-- the parts before one, joined, end where it begins
parts_front : (n : ℕ) (xs : List ℕ) → 0 < n → (k : ℕ) →
    flat_map (λ (k : ℕ). part_of n k xs) (range_with_len 0 k) ≡ take (part_start n k (length xs)) xs
parts_front n xs some zero = sym (ap (λ (m : ℕ). take m xs) (none_before n (length xs) some))
  where
    none_before : (n len : ℕ) → 0 < n → 0 * len / n ≡ 0
    none_before n len some = ap (λ (m : ℕ). m / n) (zero_mul len) ∙ zero-div n
      where
        zero_mul : (len : ℕ) → 0 * len ≡ 0
        zero_mul len = omega arith
parts_front n xs some (suc k) =
    ap (λ (m : ℕ). flat_map (λ (k : ℕ). part_of n k xs) (range_with_len 0 m)) (sym (one_more k))
    ∙ ap (λ (ks : List ℕ). flat_map (λ (k : ℕ). part_of n k xs) ks) (range_push k)
    ∙ flat_map-append (λ (k : ℕ). part_of n k xs) (range_with_len 0 k) (k ∷ [])
    ∙ ap (λ (ys : List ℕ). ys ++ (part_of n k xs ++ [])) (parts_front n xs some k)
    ∙ ap (λ (ys : List ℕ). take (part_start n k (length xs)) xs ++ ys) (append-nil (part_of n k xs))
    ∙ front_more xs (part_start n k (length xs)) (part_start n (k + 1) (length xs)) (starts_rise n k (length xs) some)
    ∙ ap (λ (m : ℕ). take (part_start n m (length xs)) xs) (one_more k)
  where
    one_more : (k : ℕ) → k + 1 ≡ suc k
    one_more k = omega arith

    range_push : (k : ℕ) → range_with_len 0 (k + 1) ≡ range_with_len 0 k ++ k ∷ []
    range_push k =
        sym (map_same (range_with_len 0 (k + 1))) ∙ map-range_with_len_more (λ (m : ℕ). m) 0 k k (omega arith)
        ∙ ap (λ (ks : List ℕ). ks ++ k ∷ []) (map_same (range_with_len 0 k))
      where
        map_same : (ks : List ℕ) → map (λ (m : ℕ). m) ks ≡ ks
        map_same [] = refl
        map_same (x ∷ ks) = ap (λ (ys : List ℕ). x ∷ ys) (map_same ks)

-- all parts of a body, joined, are the body
pub parts_join : (n : ℕ) (xs : List ℕ) → 0 < n → flat_map (λ (k : ℕ). part_of n k xs) (range_with_len 0 n) ≡ xs
parts_join n xs some =
    parts_front n xs some n ∙ ap (λ (m : ℕ). take m xs) (all n (length xs) some) ∙ take_all xs
  where
    all : (n len : ℕ) → 0 < n → n * len / n ≡ len
    all n len some = mul-div_cancel_left len some

    take_all : (xs : List ℕ) → take (length xs) xs ≡ xs
    take_all [] = refl
    take_all (x ∷ xs) = ap (λ (ys : List ℕ). x ∷ ys) (take_all xs)
