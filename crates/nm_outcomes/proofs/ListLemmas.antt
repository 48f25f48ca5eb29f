-- Lists with one element more at some place, and lists that are mapped.
use Rattle.std.proofs.Common.{◌≤◌, ◌≡◌, ℕ, suc, ◌+◌, ◌||◌, not, Bool, true, false, cond, Some, None, List, []}
use Rattle.std.proofs.Common.{◌∷◌, ◌++◌}
use Rattle.std.proofs.Common.{length, map, refl, sym, ◌∙◌, ap, arith}
use Rattle.std.specs.Prelude.{insert, nat_lt, unwrap_or}
use Rattle.std.specs.List.{filter, find, list_any, position, position_or_len}
use Rattle.std.proofs.lemmas.List.Elements.{filter-append}
use Rattle.std.proofs.lemmas.List.Folds.{list_any-append}
use Rattle.std.proofs.Common.{length-append}
use Rattle.nm_outcomes.specs.Places.{or_else}
use Rattle.nm_outcomes.proofs.PlaceLemmas.{find-append, or_none}
use Rattle.std.proofs.lemmas.Bool.Decides.{nat_tests}
use Rattle.nm_outcomes.specs.RankStates.{placed, placed_new}

-- what is not found, with one element more in front
found_front : {X : Type 0} (test : X → Bool) (x : X) (xs : List X) → (test x ≡ true → find test xs ≡ None) →
    find test (x ∷ xs) ≡ or_else (find test xs) (find test (x ∷ []))
found_front {X} test x xs new = by_test (test x) new
  where
    by_test : (b : Bool) → (b ≡ true → find test xs ≡ None) →
        cond b (Some x) (find test xs) ≡ or_else (find test xs) (cond b (Some x) None)
    by_test true new = rw (new refl) refl
    by_test false new = sym (or_none (find test xs))

pub find-placed : {X : Type 0} (test behind : X → Bool) (x : X) (xs : List X) →
    (test x ≡ true → find test xs ≡ None) →
    find test (placed behind x xs) ≡ or_else (find test xs) (find test (x ∷ []))
find-placed test behind x [] new = refl
find-placed {X} test behind x (y ∷ ys) new =
    by_place (behind y) (find-placed test behind x ys)
  where
    by_test : (b : Bool) → (test x ≡ true → cond b (Some y) (find test ys) ≡ None) →
        ((test x ≡ true → find test ys ≡ None) →
        find test (placed behind x ys) ≡ or_else (find test ys) (find test (x ∷ []))) →
        cond b (Some y) (find test (placed behind x ys))
        ≡ or_else (cond b (Some y) (find test ys)) (find test (x ∷ []))
    by_test true new later = refl
    by_test false new later = later new

    by_place : (b : Bool) → ((test x ≡ true → find test ys ≡ None) →
        find test (placed behind x ys) ≡ or_else (find test ys) (find test (x ∷ []))) →
        find test (cond b (x ∷ y ∷ ys) (y ∷ placed behind x ys))
        ≡ or_else (find test (y ∷ ys)) (find test (x ∷ []))
    by_place true later = found_front test x (y ∷ ys) new
    by_place false later = by_test (test y) new later

pub find-placed_new : {X : Type 0} (same test behind : X → Bool) (x : X) (xs : List X) →
    (test x ≡ true → list_any same xs ≡ false → find test xs ≡ None) →
    find test (placed_new same behind x xs) ≡ or_else (find test xs) (find test (x ∷ []))
find-placed_new {X} same test behind x xs new = by_same (list_any same xs) refl
  where
    by_same : (b : Bool) → list_any same xs ≡ b →
        find test (cond b (xs ++ x ∷ []) (placed behind x xs)) ≡ or_else (find test xs) (find test (x ∷ []))
    by_same true is = find-append test xs (x ∷ [])
    by_same false is = find-placed test behind x xs (λ passes. new passes is)

or_last : (a b : Bool) → (a || b) ≡ (b || (a || false))
or_last true true = refl
or_last true false = refl
or_last false true = refl
or_last false false = refl

pub any-placed : {X : Type 0} (test behind : X → Bool) (x : X) (xs : List X) →
    list_any test (placed behind x xs) ≡ (list_any test xs || list_any test (x ∷ []))
any-placed test behind x [] = refl
any-placed {X} test behind x (y ∷ ys) = by_place (behind y) (any-placed test behind x ys)
  where
    by_place : (b : Bool) → list_any test (placed behind x ys) ≡ (list_any test ys || list_any test (x ∷ [])) →
        list_any test (cond b (x ∷ y ∷ ys) (y ∷ placed behind x ys))
        ≡ ((test y || list_any test ys) || list_any test (x ∷ []))
    by_place true later = or_last (test x) (test y || list_any test ys)
    by_place false later =
        ap (λ (b : Bool). test y || b) later ∙ grouped (test y) (list_any test ys) (list_any test (x ∷ []))
      where
        grouped : (a b c : Bool) → (a || (b || c)) ≡ ((a || b) || c)
        grouped true b c = refl
        grouped false b c = refl

pub any-placed_new : {X : Type 0} (same test behind : X → Bool) (x : X) (xs : List X) →
    list_any test (placed_new same behind x xs) ≡ (list_any test xs || list_any test (x ∷ []))
any-placed_new {X} same test behind x xs = by_same (list_any same xs)
  where
    by_same : (b : Bool) →
        list_any test (cond b (xs ++ x ∷ []) (placed behind x xs)) ≡ (list_any test xs || list_any test (x ∷ []))
    by_same true = list_any-append test xs (x ∷ [])
    by_same false = any-placed test behind x xs

pub count-placed : {X : Type 0} (test behind : X → Bool) (x : X) (xs : List X) →
    length (filter test (placed behind x xs)) ≡ length (filter test xs) + length (filter test (x ∷ []))
count-placed test behind x [] = zero_add (length (filter test (x ∷ [])))
  where
    zero_add : (n : ℕ) → n ≡ 0 + n
    zero_add n = omega arith
count-placed {X} test behind x (y ∷ ys) = by_place (behind y) (count-placed test behind x ys)
  where
    first : (b : Bool) (zs : List X) →
        length (cond b (x ∷ zs) zs) ≡ length zs + length {A = X} (cond b (x ∷ []) [])
    first true zs = add_one (length zs)
      where
        add_one : (n : ℕ) → suc n ≡ n + 1
        add_one n = omega arith
    first false zs = add_none (length zs)
      where
        add_none : (n : ℕ) → n ≡ n + 0
        add_none n = omega arith

    behind_first : (b : Bool) (m : ℕ) (zs ws : List X) → length ws ≡ length zs + m →
        length (cond b (y ∷ ws) ws) ≡ length (cond b (y ∷ zs) zs) + m
    behind_first true m zs ws more = one_more (length ws) (length zs) m more
      where
        one_more : (a b m : ℕ) → a ≡ b + m → suc a ≡ suc b + m
        one_more a b m is = omega (arith, is)
    behind_first false m zs ws more = more

    by_place : (b : Bool) →
        length (filter test (placed behind x ys)) ≡ length (filter test ys) + length (filter test (x ∷ [])) →
        length (filter test (cond b (x ∷ y ∷ ys) (y ∷ placed behind x ys)))
        ≡ length (filter test (y ∷ ys)) + length (filter test (x ∷ []))
    by_place true later = first (test x) (filter test (y ∷ ys))
    by_place false later =
        behind_first (test y) (length (filter test (x ∷ []))) (filter test ys) (filter test (placed behind x ys)) later

pub count-placed_new : {X : Type 0} (same test behind : X → Bool) (x : X) (xs : List X) →
    length (filter test (placed_new same behind x xs)) ≡ length (filter test xs) + length (filter test (x ∷ []))
count-placed_new {X} same test behind x xs = by_same (list_any same xs)
  where
    by_same : (b : Bool) → length (filter test (cond b (xs ++ x ∷ []) (placed behind x xs)))
        ≡ length (filter test xs) + length (filter test (x ∷ []))
    by_same true =
        ap (λ (ys : List X). length ys) (filter-append test xs (x ∷ []))
        ∙ length-append (filter test xs) (filter test (x ∷ []))
    by_same false = count-placed test behind x xs

pub filter-map : {A B : Type 0} (f : A → B) (test : B → Bool) (xs : List A) →
    map f (filter (λ x. test (f x)) xs) ≡ filter test (map f xs)
filter-map f test [] = refl
filter-map {A} {B} f test (x ∷ xs) = by_test (test (f x)) (filter-map f test xs)
  where
    by_test : (b : Bool) → map f (filter (λ x. test (f x)) xs) ≡ filter test (map f xs) →
        map f (cond b (x ∷ filter (λ x. test (f x)) xs) (filter (λ x. test (f x)) xs))
        ≡ cond b (f x ∷ filter test (map f xs)) (filter test (map f xs))
    by_test true later = ap (λ (ys : List B). f x ∷ ys) later
    by_test false later = later

pub any-map : {A B : Type 0} (f : A → B) (test : B → Bool) (other : A → Bool) (xs : List A) →
    ((x : A) → test (f x) ≡ other x) → list_any test (map f xs) ≡ list_any other xs
any-map f test other [] same = refl
any-map f test other (x ∷ xs) same =
    ap (λ (b : Bool). b || list_any test (map f xs)) (same x)
    ∙ ap (λ (b : Bool). other x || b) (any-map f test other xs same)

not_below : (a b : ℕ) → nat_lt a b ≡ false → b ≤ a
not_below a b is = grind (arith, nat_tests)

-- what is put before the first element that passes, or at the end
pub insert_placed : {X : Type 0} (behind : X → Bool) (x : X) (xs : List X) →
    insert xs (unwrap_or (position behind xs) (length xs)) x ≡ placed behind x xs
insert_placed {X} behind x xs =
    ap (λ (k : ℕ). insert xs k x) (place (position_or_len behind xs) (length xs) (at_most xs)) ∙ at_place xs
  where
    at_most : (xs : List X) → position_or_len behind xs ≤ length xs
    at_most [] = omega arith
    at_most (y ∷ ys) = by_test (behind y) (at_most ys)
      where
        by_test : (b : Bool) → position_or_len behind ys ≤ length ys →
            cond (not b) (1 + position_or_len behind ys) 0 ≤ suc (length ys)
        by_test true low = omega (arith, low)
        by_test false low = omega (arith, low)

    place : (k n : ℕ) → k ≤ n → unwrap_or (cond (nat_lt k n) (Some k) None) n ≡ k
    place k n low = by_test (nat_lt k n) refl
      where
        by_test : (b : Bool) → nat_lt k n ≡ b → unwrap_or (cond b (Some k) None) n ≡ k
        by_test true is = refl
        by_test false is = let x = not_below k n is in omega (arith, x, low)

    at_place : (xs : List X) → insert xs (position_or_len behind xs) x ≡ placed behind x xs
    at_place [] = refl
    at_place (y ∷ ys) = by_test (behind y) (at_place ys)
      where
        one_more : (k : ℕ) → 1 + k ≡ suc k
        one_more k = omega arith

        by_test : (b : Bool) → insert ys (position_or_len behind ys) x ≡ placed behind x ys →
            insert (y ∷ ys) (cond (not b) (1 + position_or_len behind ys) 0) x
            ≡ cond b (x ∷ y ∷ ys) (y ∷ placed behind x ys)
        by_test true later = refl
        by_test false later =
            ap (λ (k : ℕ). insert (y ∷ ys) k x) (one_more (position_or_len behind ys))
            ∙ ap (λ (zs : List X). y ∷ zs) later
