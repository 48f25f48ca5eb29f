-- Whether two lists of bytes are the same, byte by byte.
use Rattle.std.proofs.Common.{◌≡◌, ℕ, zero, suc, ◌<◌, ◌&&◌, Bool, true, false, List, [], ◌∷◌, length, get_or, eq-eqb}
use Rattle.std.proofs.Common.{map, refl, sym, ◌∙◌, ap, arith}
use Rattle.std.specs.Prelude.{nat_eq}
use Rattle.std.specs.Cmp.Lexicographic.{pointwise, same_text}
use Rattle.std.proofs.lemmas.Bool.{false≢true}
use Rattle.std.proofs.lemmas.List.FromFn.{get_or-map-range_with_len, length-map-range_with_len}
use Rattle.std.specs.List.{range_with_len}
use Rattle.nm_types.proofs.NumberLemmas.{same_number}
use Rattle.nm_types.proofs.TruthLemmas.{both, not_true}
use Rattle.nm_types.specs.Bodies.{bytes_of, generated_byte}
use Rattle.nm_types.specs.declared.scripts.Body.{Body}
use Rattle.nm_types.specs.declared.scripts.Body.TheVariants.{Gen}

and_false : (a b : Bool) → b ≡ false → (a && b) ≡ false
and_false true b is = is
and_false false b is = refl

pub all_same : (xs ys : List ℕ) → length xs ≡ length ys →
    ((k : ℕ) → k < length xs → get_or xs k 0 ≡ get_or ys k 0) → pointwise nat_eq xs ys ≡ true
all_same [] [] as_long each = refl
all_same [] (y ∷ ys) as_long each = absurd (omega (arith, as_long))
all_same (x ∷ xs) [] as_long each = absurd (omega (arith, as_long))
all_same (x ∷ xs) (y ∷ ys) as_long each =
    both (nat_eq x y) (pointwise nat_eq xs ys) (eq-eqb x y (each 0 (omega arith)))
    (all_same xs ys (omega (arith, as_long)) (λ k low. each (suc k) (omega (arith, low))))

pub one_other : (xs ys : List ℕ) (k : ℕ) → k < length xs → k < length ys →
    nat_eq (get_or xs k 0) (get_or ys k 0) ≡ false → pointwise nat_eq xs ys ≡ false
one_other [] ys k low short other = absurd (omega (arith, low))
one_other (x ∷ xs) [] k low short other = absurd (omega (arith, short))
one_other (x ∷ xs) (y ∷ ys) zero low short other = ap (λ (b : Bool). b && pointwise nat_eq xs ys) other
one_other (x ∷ xs) (y ∷ ys) (suc k) low short other =
    and_false (nat_eq x y) (pointwise nat_eq xs ys)
    (one_other xs ys k (omega (arith, low)) (omega (arith, short)) other)

pub other_length : (xs ys : List ℕ) → nat_eq (length ys) (length xs) ≡ false → pointwise nat_eq xs ys ≡ false
other_length xs ys other =
    not_true (pointwise nat_eq xs ys)
    (λ so. false≢true (sym other ∙ eq-eqb (length ys) (length xs)
    (ap (λ (zs : List ℕ). length zs) (sym (same_text xs ys (sym so))))))

-- a generated body
byte_at : (len k : ℕ) → k < len → get_or (map generated_byte (range_with_len 0 len)) k 0 ≡ generated_byte k
byte_at len k low = get_or-map-range_with_len generated_byte 0 len k k 0 low (omega arith)

pub same_bytes : (len : ℕ) (bytes : List ℕ) → length bytes ≡ len →
    ((j : ℕ) → j < len → generated_byte j ≡ get_or bytes j 0) →
    true ≡ pointwise nat_eq (map generated_byte (range_with_len 0 len)) bytes
same_bytes len bytes as_long each =
    let count = length-map-range_with_len generated_byte 0 len in
    sym (all_same (map generated_byte (range_with_len 0 len)) bytes (count ∙ sym as_long)
    (λ k low. let below : k < len = omega (arith, low, count) in byte_at len k below ∙ each k below))

pub other_byte : (len k : ℕ) (bytes : List ℕ) → length bytes ≡ len → k < len →
    (generated_byte k ≡ get_or bytes k 0 → ⊥) →
    false ≡ pointwise nat_eq (map generated_byte (range_with_len 0 len)) bytes
other_byte len k bytes as_long low other =
    let count = length-map-range_with_len generated_byte 0 len in
    let x : ℕ = get_or (map generated_byte (range_with_len 0 len)) k 0 in
    sym (one_other (map generated_byte (range_with_len 0 len)) bytes k (omega (arith, low, count))
    (omega (arith, low, as_long))
    (not_true (nat_eq x (get_or bytes k 0))
    (λ so. other (sym (byte_at len k low) ∙ same_number x (get_or bytes k 0) so))))

pub other_body : (body : Body) (len : ℕ) (bytes : List ℕ) → body ≡ Gen len → nat_eq (length bytes) len ≡ false →
    nat_eq (length bytes) len ≡ pointwise nat_eq (bytes_of body) bytes
other_body body len bytes is other =
    other ∙ sym (ap (λ (b : Body). pointwise nat_eq (bytes_of b) bytes) is
    ∙ other_length (map generated_byte (range_with_len 0 len)) bytes
    (ap (λ (n : ℕ). nat_eq (length bytes) n) (length-map-range_with_len generated_byte 0 len) ∙ other))

pub longer_body : (body : Body) (len : ℕ) (bytes : List ℕ) → body ≡ Gen len → (length bytes ≡ len → ⊥) →
    nat_eq (length bytes) len ≡ pointwise nat_eq (bytes_of body) bytes
longer_body body len bytes is other =
    other_body body len bytes is
    (not_true (nat_eq (length bytes) len) (λ so. other (same_number (length bytes) len so)))
