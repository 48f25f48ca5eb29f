-- Places of a list.
use Rattle.std.proofs.Common.{◌≡◌, ℕ, zero, suc, ◌+◌, ◌<◌, ◌≤◌, ◌&&◌, Bool, true, nat_lt, if◌then◌else◌, sym, Option, Some, List, [], ◌∷◌, ◌++◌, ◌∙◌, ap, arith, get_or, length, refl, subst, take}
use Rattle.std.specs.Prelude.{filter_map, slice_set}
use Rattle.std.specs.List.{cons_option, range_with_len, slice_get}
use Rattle.std.proofs.lemmas.Bool.{ltb-true, lt-ltb}
use Rattle.std.proofs.lemmas.List.{take_more}
use Rattle.std.proofs.lemmas.List.Elements.{filter_map-append}
use Rattle.std.proofs.lemmas.List.FromFn.{get_or-range_with_len, length-range_with_len}
use Rattle.nm_types.proofs.TruthLemmas.{and_left, and_right, both, not_true}
use Rattle.nm_why.specs.Changes.{swapped_places}
use Rattle.nm_why.specs.Least.{AreRising}

-- what stands at the places from one on
places_from : {X : Type 0} (zs xs : List X) (a : ℕ) → ((i : ℕ) → slice_get zs (a + i) ≡ slice_get xs i) →
    filter_map (λ p. slice_get zs p) (range_with_len a (length xs)) ≡ xs
places_from zs [] a same = refl
places_from {X} zs (x ∷ xs) a same =
    let here : slice_get zs a ≡ Some x =
    subst (λ (k : ℕ). slice_get zs k ≡ Some x) (omega arith) (same 0) in
    let rest : filter_map (λ p. slice_get zs p) (range_with_len (a + 1) (length xs)) ≡ xs =
    places_from zs xs (a + 1)
    (λ i. subst (λ (k : ℕ). slice_get zs k ≡ slice_get xs i) (omega arith) (same (suc i))) in
    rw here (ap (λ (l : List X). x ∷ l) rest)

-- what is given of the first elements, with one more
pub taken : {X Y : Type 0} (f : X → Option Y) (xs : List X) (k : ℕ) (d : X) → k < length xs →
    filter_map f (take (k + 1) xs) ≡ filter_map f (take k xs) ++ cons_option (f (get_or xs k d)) []
taken {X} f xs k d low =
    ap (λ (ys : List X). filter_map f ys) (take_more xs k d low) ∙ filter_map-append f (take k xs) (get_or xs k d ∷ [])

-- at all places it is the list
pub at_all_places : {X : Type 0} (xs : List X) → filter_map (λ p. slice_get xs p) (range_with_len 0 (length xs)) ≡ xs
at_all_places xs = places_from xs xs 0 (λ i. ap (λ (k : ℕ). slice_get xs k) (omega arith))

-- they rise
pub places_rise : (n : ℕ) → AreRising (range_with_len 0 n)
places_rise n i j d low within =
    let len = length-range_with_len 0 n in
    let first = get_or-range_with_len 0 n i d (omega (arith, len, low, within)) in
    let second = get_or-range_with_len 0 n j d (omega (arith, len, within)) in
    omega (arith, first, second, low)

-- one more
range_suc : (a n : ℕ) → range_with_len a (suc n) ≡ range_with_len a n ++ (a + n) ∷ []
range_suc a zero = ap (λ (k : ℕ). k ∷ []) (omega arith)
range_suc a (suc n) =
    let last : a + 1 + n ≡ a + suc n = omega arith in
    ap (λ (ks : List ℕ). a ∷ ks)
    (range_suc (a + 1) n ∙ ap (λ (k : ℕ). range_with_len (a + 1) n ++ k ∷ []) last)

pub places_more : (n : ℕ) (old new : List ℕ) → new ≡ old ++ n ∷ [] → old ≡ range_with_len 0 n →
    new ≡ range_with_len 0 (n + 1)
places_more n old new is all =
    let next : suc n ≡ n + 1 = omega arith in
    let last : n ≡ 0 + n = omega arith in
    is ∙ ap (λ (ks : List ℕ). ks ++ n ∷ []) all ∙ ap (λ (k : ℕ). range_with_len 0 n ++ k ∷ []) last
    ∙ sym (range_suc 0 n) ∙ ap (λ (m : ℕ). range_with_len 0 m) next

-- where both places are there, they are exchanged, and else none is
pub swap_on : (count j k : ℕ) → j < count → k < count →
    slice_set (slice_set (range_with_len 0 count) j k) k j ≡ swapped_places count j k
swap_on count j k one two =
    let there = both (nat_lt j count) (nat_lt k count) (lt-ltb j count one) (lt-ltb k count two) in
    sym
    (ap (λ (b : Bool). if b then slice_set (slice_set (range_with_len 0 count) j k) k j else range_with_len 0 count)
    there)

swap_none : (count j k : ℕ) → ((nat_lt j count && nat_lt k count) ≡ true → ⊥) →
    range_with_len 0 count ≡ swapped_places count j k
swap_none count j k none =
    let gone = not_true (nat_lt j count && nat_lt k count) none in
    sym
    (ap (λ (b : Bool). if b then slice_set (slice_set (range_with_len 0 count) j k) k j else range_with_len 0 count)
    gone)

pub swap_off : (count j k : ℕ) → count ≤ j → range_with_len 0 count ≡ swapped_places count j k
swap_off count j k past =
    swap_none count j k
    (λ there.
    let low = ltb-true j count (and_left (nat_lt j count) (nat_lt k count) there) in omega (arith, low, past))

pub swap_off_too : (count j k : ℕ) → count ≤ k → range_with_len 0 count ≡ swapped_places count j k
swap_off_too count j k past =
    swap_none count j k
    (λ there.
    let low = ltb-true k count (and_right (nat_lt j count) (nat_lt k count) there) in omega (arith, low, past))
