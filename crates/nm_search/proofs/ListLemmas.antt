-- Lists that grow, and what an option has.
use Rattle.std.proofs.Common.{◌≡◌, ◌⊎◌, inl, inr, ℕ, zero, suc, ◌+◌, ◌<◌, Bool, true, false, Option, Some, None, List, [], ◌∷◌}
use Rattle.std.proofs.Common.{◌++◌, ◌≤◌, eq-eqb, get_or, length, replicate, refl, sym, ◌∙◌, ap, subst, arith}
use Rattle.std.specs.Prelude.{nat_eq, nat_lt, option_and_then}
use Rattle.std.specs.List.{slice_get}
use Rattle.std.proofs.lemmas.Bool.Decides.{nat_tests}
use Rattle.std.proofs.lemmas.List.{replicate-append-replicate}
use Rattle.std.proofs.lemmas.Option.{get_or_from_slice_get, slice_get-get_or}
use Rattle.nm_types.proofs.ListLemmas.{get_before, get_last, get_some, no_item, no_items}
use Rattle.nm_types.proofs.NumberLemmas.{same_number}
use Rattle.nm_types.proofs.OptionLemmas.{no_some, same_some}
use Rattle.nm_search.specs.Lists.{AddsOnly, Extends, Has}

pub replicate_more : {X : Type 0} (n : ℕ) (x : X) → replicate n x ++ x ∷ [] ≡ replicate (n + 1) x
replicate_more n x = replicate-append-replicate n 1 x

pub keeps_all : {X : Type 0} (xs : List X) → Extends xs xs
keeps_all xs k x here = here

pub keeps_then : {X : Type 0} (xs ys zs : List X) → Extends xs ys → Extends ys zs → Extends xs zs
keeps_then xs ys zs one two k x here = two k x (one k x here)

pub keeps_push : {X : Type 0} (xs ys : List X) (y : X) → ys ≡ xs ++ y ∷ [] → Extends xs ys
keeps_push {X} xs ys y is k x here =
    ap (λ (zs : List X). slice_get zs k) is ∙ get_before xs (y ∷ []) k x here

pub has_push : {X : Type 0} (xs ys : List X) (y : X) → ys ≡ xs ++ y ∷ [] → Has ys y
has_push {X} xs ys y is = (length xs, ap (λ (zs : List X). slice_get zs (length xs)) is ∙ get_last xs y)

pub has_kept : {X : Type 0} (xs ys : List X) (x : X) → Extends xs ys → Has xs x → Has ys x
has_kept xs ys x kept at = (at.0, kept at.0 x at.1)

-- a list with one element more
last_or_before : {X : Type 0} (y x : X) (xs : List X) (k : ℕ) → slice_get (xs ++ y ∷ []) k ≡ Some x →
    Has xs x ⊎ (y ≡ x)
last_or_before y x [] zero here = inr (same_some y x here)
last_or_before y x [] (suc k) here = absurd (no_item k x here)
last_or_before y x (z ∷ zs) zero here = inl (0, here)
last_or_before {X} y x (z ∷ zs) (suc k) here = one_on (last_or_before y x zs k here)
  where
    one_on : Has zs x ⊎ (y ≡ x) → Has (z ∷ zs) x ⊎ (y ≡ x)
    one_on (inl at) = inl (suc at.0, at.1)
    one_on (inr is) = inr is

pub more_only : {X : Type 0} (xs ys : List X) (y : X) → ys ≡ xs ++ y ∷ [] → AddsOnly (λ (x : X). y ≡ x) xs ys
more_only {X} xs ys y is x at =
    last_or_before y x xs at.0 (ap (λ (zs : List X). slice_get zs at.0) (sym is) ∙ at.1)

-- what holds below a number and at it
pub each_next : (Q : ℕ → Type 0) (k : ℕ) → ((m : ℕ) → m < k → Q m) → Q k → (m : ℕ) → m < k + 1 → Q m
each_next Q k before here m low = by_test (nat_lt m k) refl
  where
    by_test : (b : Bool) → nat_lt m k ≡ b → Q m
    by_test true is = before m (grind (arith, nat_tests))
    by_test false is = let e : k ≡ m = grind (arith, nat_tests) in subst Q e here

-- lists to which only such elements were added
pub only_all : {X : Type 0} (P : X → Type 0) (xs : List X) → AddsOnly P xs xs
only_all P xs x at = inl at

pub only_then : {X : Type 0} (P : X → Type 0) (xs ys zs : List X) → AddsOnly P xs ys → AddsOnly P ys zs →
    AddsOnly P xs zs
only_then P xs ys zs one two x at = by_place (two x at)
  where
    by_place : Has ys x ⊎ P x → Has xs x ⊎ P x
    by_place (inl before) = one x before
    by_place (inr is) = inr is

pub only_weaker : {X : Type 0} (P Q : X → Type 0) (xs ys : List X) → ((x : X) → P x → Q x) → AddsOnly P xs ys →
    AddsOnly Q xs ys
only_weaker P Q xs ys follows only x at = by_place (only x at)
  where
    by_place : Has xs x ⊎ P x → Has xs x ⊎ Q x
    by_place (inl before) = inl before
    by_place (inr is) = inr (follows x is)

-- what holds of each element, and of those that are added
pub or_more : {X : Type 0} (P : X → Type 0) (xs ys : List X) → ((x : X) → Has xs x → P x) → AddsOnly P xs ys →
    (x : X) → Has ys x → P x
or_more P xs ys each only x at = by_place (only x at)
  where
    by_place : Has xs x ⊎ P x → P x
    by_place (inl before) = each x before
    by_place (inr is) = is

-- an element of a longer list that stood in the shorter one
pub same_before : {X : Type 0} (xs ys : List X) (k : ℕ) (x : X) → Extends xs ys → k < length xs →
    slice_get ys k ≡ Some x → slice_get xs k ≡ Some x
same_before xs ys k x kept low here =
    let item = get_some xs k low in item.1 ∙ sym (kept k item.0 item.1) ∙ here

-- what an option has behind a second step
pub then_some : {X Y : Type 0} (f : X → Option Y) (o : Option X) (y : Y) → option_and_then f o ≡ Some y →
    (x : X) × (o ≡ Some x) × (f x ≡ Some y)
then_some f None y is = absurd (no_some y is)
then_some f (Some x) y is = (x, refl, is)

-- the element at a place was added
pub item_added : {X : Type 0} (i : ℕ) (item copy t : X) (xs ys : List X) → item ≡ get_or xs i item → copy ≡ item →
    slice_get xs i ≡ Some t → Has ys copy → Has ys t
item_added {X} i item copy t xs ys is same at there =
    subst (λ (x : X). Has ys x) (same ∙ is ∙ get_or_from_slice_get xs i t item at) there

pub added_only : {X : Type 0} (i : ℕ) (item copy : X) (xs old new : List X) → item ≡ get_or xs i item →
    i < length xs → copy ≡ item → (new ≡ old) ⊎ (new ≡ old ++ copy ∷ []) → AddsOnly (Has xs) old new
added_only {X} i item copy xs old new is low same (inl kept) =
    subst (λ (zs : List X). AddsOnly (Has xs) old zs) (sym kept) (only_all (Has xs) old)
added_only {X} i item copy xs old new is low same (inr more) =
    only_weaker (λ (x : X). copy ≡ x) (Has xs) old new
    (λ x e. (i, slice_get-get_or xs i item low ∙ ap (λ (z : X). Some z) (sym is ∙ sym same ∙ e)))
    (more_only old new copy more)

-- no element stands behind the last one
pub none_behind : {X : Type 0} (xs : List X) (k : ℕ) → None ≡ slice_get xs k → length xs ≤ k
none_behind [] k none = omega arith
none_behind (x ∷ xs) zero none = absurd (no_some x none)
none_behind (x ∷ xs) (suc k) none = let later = none_behind xs k none in omega (arith, later)

pub has_nothing : {X : Type 0} (xs : List X) (x : X) → xs ≡ [] → Has xs x → ⊥
has_nothing {X} xs x none at = no_item at.0 x (ap (λ (zs : List X). slice_get zs at.0) (sym none) ∙ at.1)

-- what an element of a list leads to
pub next_more : {A X : Type 0} (f : A → Option X) (moves : List A) (k : ℕ) (d m : A) (t : X) (xs : List X) →
    slice_get moves k ≡ Some m → ((t : X) → f (get_or moves k d) ≡ Some t → Has xs t) → f m ≡ Some t → Has xs t
next_more {A} f moves k d m t xs at added is =
    added t (ap f (get_or_from_slice_get moves k m d at) ∙ is)

-- what an option had was added
pub pushed_only : {X : Type 0} (o p : Option X) (xs ys : List X) (t : X) → p ≡ o → p ≡ Some t → ys ≡ xs ++ t ∷ [] →
    AddsOnly (λ (x : X). o ≡ Some x) xs ys
pushed_only {X} o p xs ys t same is more =
    only_weaker (λ (x : X). t ≡ x) (λ (x : X). o ≡ Some x) xs ys (λ x e. sym same ∙ is ∙ ap (λ (z : X). Some z) e)
    (more_only xs ys t more)

-- the test for an empty list
pub test_empty : {X : Type 0} (xs : List X) → nat_eq (length xs) 0 ≡ true → xs ≡ []
test_empty xs so = no_items xs (same_number (length xs) 0 so)

pub empty_test : {X : Type 0} (xs : List X) → xs ≡ [] → nat_eq (length xs) 0 ≡ true
empty_test {X} xs none = ap (λ (ys : List X). nat_eq (length ys) 0) none ∙ eq-eqb 0 0 refl
