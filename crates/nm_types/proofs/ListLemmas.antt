-- Elements by their places, lists that were put together or changed, searches, and what holds of each element.
use Rattle.std.proofs.Common.{◌≡◌, ◌≢◌, ℕ, zero, suc, ◌+◌, ◌<◌, ◌||◌, Bool, true, false, cond, Option, Some, None}
use Rattle.std.proofs.Common.{List, [], ◌∷◌, ◌++◌, length, get_or, take, drop, map, drop-cons, add-one}
use Rattle.std.proofs.Common.{refl, sym, ◌∙◌, ap, subst, arith}
use Rattle.std.specs.Prelude.{IsSomeAnd}
use Rattle.std.specs.List.{AllByRecursion, find, list_any, slice_get}
use Rattle.std.specs.Option.{option_map}
use Rattle.std.proofs.Math.ListN.{set}
use Rattle.std.proofs.Math.Seq.{take-suc}
use Rattle.std.proofs.lemmas.Bool.{false≢true}
use Rattle.std.proofs.lemmas.List.{take-append-drop}
use Rattle.nm_types.proofs.OptionLemmas.{no_some, same_some}

-- an empty list
pub no_items : {X : Type 0} (xs : List X) → length xs ≡ 0 → xs ≡ []
no_items [] e = refl
no_items (x ∷ xs) e = absurd (omega arith)

pub no_item : {X : Type 0} (k : ℕ) (x : X) → slice_get [] k ≡ Some x → ⊥
no_item k x here = cc

pub front_empty : {X : Type 0} (xs ys : List X) → xs ++ ys ≡ [] → xs ≡ []
front_empty [] ys none = refl
front_empty (x ∷ xs) ys none = absurd (grind arith)

-- a place has an element exactly where it is below the length
pub place_below : {X : Type 0} (xs : List X) (k : ℕ) (x : X) → slice_get xs k ≡ Some x → k < length xs
place_below [] k x here = absurd (no_some x here)
place_below (y ∷ ys) zero x here = omega arith
place_below (y ∷ ys) (suc k) x here = let more = place_below ys k x here in omega (arith, more)

pub get_some : {X : Type 0} (xs : List X) (k : ℕ) → k < length xs → (x : X) × (slice_get xs k ≡ Some x)
get_some [] k low = absurd (omega arith)
get_some (x ∷ xs) zero low = (x, refl)
get_some (x ∷ xs) (suc k) low = get_some xs k (omega (arith, low))

-- places of two lists, one behind the other
pub get_front : {X : Type 0} (xs ys : List X) (k : ℕ) → k < length xs → slice_get (xs ++ ys) k ≡ slice_get xs k
get_front [] ys k early = absurd (omega arith)
get_front (x ∷ xs) ys zero early = refl
get_front (x ∷ xs) ys (suc k) early = get_front xs ys k (omega (arith, early))

pub get_before : {X : Type 0} (xs ys : List X) (k : ℕ) (x : X) → slice_get xs k ≡ Some x →
    slice_get (xs ++ ys) k ≡ Some x
get_before xs ys k x here = get_front xs ys k (place_below xs k x here) ∙ here

pub some_still : {X : Type 0} (P : X → Type 0) (xs ys : List X) (k : ℕ) → IsSomeAnd (slice_get xs k) P →
    IsSomeAnd (slice_get (xs ++ ys) k) P
some_still P [] ys k h = absurd h
some_still P (x ∷ xs) ys zero h = h
some_still P (x ∷ xs) ys (suc k) h = some_still P xs ys k h

pub get_behind : {X : Type 0} (xs ys : List X) (x : X) → slice_get (xs ++ x ∷ ys) (length xs) ≡ Some x
get_behind [] ys x = refl
get_behind (y ∷ xs) ys x = get_behind xs ys x

pub get_last : {X : Type 0} (xs : List X) (x : X) → slice_get (xs ++ x ∷ []) (length xs) ≡ Some x
get_last xs x = get_behind xs [] x

-- the places of a mapped list
pub map_length : {X Y : Type 0} (f : X → Y) (xs : List X) → length (map f xs) ≡ length xs
map_length f [] = refl
map_length f (x ∷ xs) = ap suc (map_length f xs)

pub get_map : {X Y : Type 0} (f : X → Y) (xs : List X) (k : ℕ) (x : X) → slice_get xs k ≡ Some x →
    slice_get (map f xs) k ≡ Some (f x)
get_map f [] k x here = absurd (no_some x here)
get_map {X = X} f (y ∷ ys) zero x here = ap (λ (z : X). Some (f z)) (same_some y x here)
get_map f (y ∷ ys) (suc k) x here = get_map f ys k x here

pub get_from_map : {X Y : Type 0} (f : X → Y) (xs : List X) (k : ℕ) (y : Y) → slice_get (map f xs) k ≡ Some y →
    (x : X) × (slice_get xs k ≡ Some x) × (f x ≡ y)
get_from_map f [] k y here = absurd (no_some y here)
get_from_map f (x ∷ xs) zero y here = (x, refl, same_some (f x) y here)
get_from_map f (x ∷ xs) (suc k) y here = get_from_map f xs k y here

-- the places of a list of which one was set
pub get_set_same : {X : Type 0} (xs : List X) (k : ℕ) (x : X) → k < length xs → slice_get (set xs k x) k ≡ Some x
get_set_same [] k x below = absurd (omega arith)
get_set_same (y ∷ xs) zero x below = refl
get_set_same (y ∷ xs) (suc k) x below = get_set_same xs k x (omega arith)

pub get_set_other : {X : Type 0} (xs : List X) (i k : ℕ) (x : X) → k ≢ i → slice_get (set xs i x) k ≡ slice_get xs k
get_set_other [] i k x differ = refl
get_set_other (y ∷ xs) zero zero x differ = absurd (differ refl)
get_set_other (y ∷ xs) zero (suc k) x differ = refl
get_set_other (y ∷ xs) (suc i) zero x differ = refl
get_set_other (y ∷ xs) (suc i) (suc k) x differ = get_set_other xs i k x (λ same. differ (ap suc same))

pub set_twice : {X : Type 0} (xs : List X) (k : ℕ) (x y : X) → set (set xs k x) k y ≡ set xs k y
set_twice [] k x y = refl
set_twice (z ∷ xs) zero x y = refl
set_twice {X = X} (z ∷ xs) (suc k) x y = ap (λ (l : List X). z ∷ l) (set_twice xs k x y)

-- a front, one element longer
pub take_next : {X : Type 0} (xs : List X) (k : ℕ) (x : X) → k < length xs → x ≡ get_or xs k x →
    take (k + 1) xs ≡ take k xs ++ x ∷ []
take_next {X} xs k x inside is =
    rw add-one (take-suc xs k x inside ∙ ap (λ (y : X). take k xs ++ y ∷ []) (sym is))

pub take_more : {X : Type 0} (xs : List X) (k : ℕ) (x : X) → slice_get xs k ≡ Some x →
    take (suc k) xs ≡ take k xs ++ x ∷ []
take_more [] k x here = absurd (no_some x here)
take_more {X = X} (y ∷ ys) zero x here = ap (λ (z : X). z ∷ []) (same_some y x here)
take_more {X = X} (y ∷ ys) (suc k) x here = ap (λ (zs : List X). y ∷ zs) (take_more ys k x here)

-- a list is what stands before a place, the element there, and the rest
pub split_at : {X : Type 0} (xs : List X) (k : ℕ) (x : X) → k < length xs → x ≡ get_or xs k x →
    xs ≡ take k xs ++ x ∷ drop (k + 1) xs
split_at {X} xs k x inside is =
    sym (take-append-drop k xs)
    ∙ ap (λ (ys : List X). take k xs ++ ys) (rw add-one (drop-cons xs k x inside
    ∙ ap (λ (y : X). y ∷ drop (suc k) xs) (sym is)))

-- searches
found_passes : {X : Type 0} (test : X → Bool) (y x : X) (rest : Option X) (b : Bool) → test y ≡ b →
    (rest ≡ Some x → test x ≡ true) → cond b (Some y) rest ≡ Some x → test x ≡ true
found_passes {X} test y x rest true passes later h =
    let same : y ≡ x = cc in subst (λ (z : X). test z ≡ true) same passes
found_passes test y x rest false passes later h = later h

pub find_passes : {X : Type 0} (test : X → Bool) (xs : List X) (x : X) → find test xs ≡ Some x → test x ≡ true
find_passes test [] x found = cc
find_passes test (y ∷ ys) x found = found_passes test y x (find test ys) (test y) refl (find_passes test ys x) found

pub find_some : {X : Type 0} (test : X → Bool) (xs : List X) → list_any test xs ≡ true →
    (x : X) × (find test xs ≡ Some x)
find_some test [] some = absurd (false≢true some)
find_some {X = X} test (x ∷ xs) some = by_test (test x) some (find_some test xs) where
  by_test : (b : Bool) → (b || list_any test xs) ≡ true →
      (list_any test xs ≡ true → (y : X) × (find test xs ≡ Some y)) →
      (y : X) × (cond b (Some x) (find test xs) ≡ Some y)
  by_test true some later = (x, refl)
  by_test false some later = later some

pub find_nothing : {X : Type 0} (test : X → Bool) (xs : List X) → list_any test xs ≡ false → find test xs ≡ None
find_nothing test [] none = refl
find_nothing test (x ∷ xs) none = by_test (test x) none (find_nothing test xs) where
  by_test : (b : Bool) → (b || list_any test xs) ≡ false →
      (list_any test xs ≡ false → find test xs ≡ None) → cond b (Some x) (find test xs) ≡ None
  by_test true none later = cc
  by_test false none later = later none

pub find_agree : {X : Type 0} (p q : X → Bool) → ((x : X) → p x ≡ q x) → (xs : List X) → find p xs ≡ find q xs
find_agree p q agree [] = refl
find_agree {X = X} p q agree (x ∷ xs) =
    rw (agree x) (ap (λ (r : Option X). cond (q x) (Some x) r) (find_agree p q agree xs))

-- what holds of each element
pub all_append : {X : Type 0} (P : X → Type 0) (xs ys : List X) → AllByRecursion P xs → AllByRecursion P ys →
    AllByRecursion P (xs ++ ys)
all_append P [] ys first rest = rest
all_append P (x ∷ xs) ys first rest = (first.0, all_append P xs ys first.1 rest)

pub all_split : {X : Type 0} (P : X → Type 0) (xs ys : List X) → AllByRecursion P (xs ++ ys) →
    AllByRecursion P xs × AllByRecursion P ys
all_split P [] ys each = (tt, each)
all_split P (x ∷ xs) ys each = let rest = all_split P xs ys each.1 in ((each.0, rest.0), rest.1)

pub all_push : {X : Type 0} (P : X → Type 0) (xs : List X) (x : X) → AllByRecursion P xs → P x →
    AllByRecursion P (xs ++ x ∷ [])
all_push P [] x each now = (now, tt)
all_push P (y ∷ ys) x each now = (each.0, all_push P ys x each.1 now)

pub all_along : {X : Type 0} (P Q : X → Type 0) (xs : List X) → ((x : X) → P x → Q x) → AllByRecursion P xs →
    AllByRecursion Q xs
all_along P Q [] f each = tt
all_along P Q (x ∷ xs) f each = (f x each.0, all_along P Q xs f each.1)

pub all_at : {X : Type 0} (P : X → Type 0) (xs : List X) (k : ℕ) (x : X) → AllByRecursion P xs →
    slice_get xs k ≡ Some x → P x
all_at P [] k x each here = absurd (no_some x here)
all_at P (y ∷ ys) zero x each here = subst P (same_some y x here) each.0
all_at P (y ∷ ys) (suc k) x each here = all_at P ys k x each.1 here

-- what is found of values is the value of what is found
pub find-map : {A B : Type 0} (f : A → B) (test : B → Bool) (xs : List A) →
    find test (map f xs) ≡ option_map f (find (λ x. test (f x)) xs)
find-map f test [] = refl
find-map {A} {B} f test (x ∷ xs) = by_test (test (f x)) (find-map f test xs)
  where
    by_test : (b : Bool) → find test (map f xs) ≡ option_map f (find (λ x. test (f x)) xs) →
        cond b (Some (f x)) (find test (map f xs)) ≡ option_map f (cond b (Some x) (find (λ x. test (f x)) xs))
    by_test true later = refl
    by_test false later = later
