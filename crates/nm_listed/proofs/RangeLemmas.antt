-- Lists that are made of the numbers of a range, and what holds at each place of a list.
use Rattle.std.proofs.Common.{◌≡◌, ℕ, zero, suc, ◌+◌, ◌<◌, ◌≤◌, refl, ◌∙◌, ap, arith}
use Rattle.std.proofs.Common.{Option, Some, List, [], ◌∷◌, length, map}
use Rattle.std.specs.Prelude.{filter_map}
use Rattle.std.specs.List.{AllByRecursion, cons_option, range_with_len, slice_get}
use Rattle.nm_types.proofs.OptionLemmas.{no_some, same_some}

-- what holds at each place holds of all
pub all_from : {X : Type 0} (P : X → Type 0) (xs : List X) → ((k : ℕ) (x : X) → slice_get xs k ≡ Some x → P x) →
    AllByRecursion P xs
all_from P [] each = tt
all_from P (x ∷ xs) each = (each 0 x refl, all_from P xs (λ k y here. each (suc k) y here))

-- the numbers of a range
pub range_long : (a n : ℕ) → length (range_with_len a n) ≡ n
range_long a zero = refl
range_long a (suc n) = ap suc (range_long (a + 1) n)

pub range_at : (a n k x : ℕ) → slice_get (range_with_len a n) k ≡ Some x → (x ≡ a + k) × (k < n)
range_at a zero k x here = absurd (no_some x here)
range_at a (suc n) zero x here = (let same : a ≡ x = same_some a x here in omega (arith, same), omega arith)
range_at a (suc n) (suc k) x here =
    let more = range_at (a + 1) n k x here in
    let one = more.0 in
    let two = more.1 in
    (omega (arith, one), omega (arith, two))

pub each_there : {X : Type 0} (f : ℕ → Option X) (g : ℕ → X) (a n : ℕ) →
    ((k : ℕ) → a ≤ k → k < a + n → f k ≡ Some (g k)) →
    filter_map f (range_with_len a n) ≡ map g (range_with_len a n)
each_there f g a zero each = refl
each_there {X} f g a (suc n) each =
    let first : a < a + suc n = omega arith in
    let here : a ≤ a = omega arith in
    ap (λ (o : Option X). cons_option o (filter_map f (range_with_len (a + 1) n))) (each a here first)
    ∙ ap (λ (xs : List X). g a ∷ xs)
    (each_there f g (a + 1) n (λ k low high.
    let x : a ≤ k = omega (arith, low) in
    let y : k < a + suc n = omega (arith, high) in
    each k x y))

pub map_twice : {X Y Z : Type 0} (f : X → Y) (g : Y → Z) (xs : List X) → map g (map f xs) ≡ map (λ x. g (f x)) xs
map_twice f g [] = refl
map_twice {X} {Y} {Z} f g (x ∷ xs) = ap (λ (zs : List Z). g (f x) ∷ zs) (map_twice f g xs)

pub map_same : {X : Type 0} (f : X → X) → ((x : X) → f x ≡ x) → (xs : List X) → map f xs ≡ xs
map_same f same [] = refl
map_same {X} f same (x ∷ xs) =
    ap (λ (y : X). y ∷ map f xs) (same x) ∙ ap (λ (ys : List X). x ∷ ys) (map_same f same xs)
