-- Sets of states.
use Rattle.std.proofs.Common.{◌≡◌, ◌⊎◌, inl, inr, ℕ, Bool, true, false, not, Some, List, [], ◌∷◌, ◌++◌, refl, sym, ◌∙◌, ap}
use Rattle.std.specs.Prelude.{if◌then◌else◌, nat_eq}
use Rattle.std.specs.Cmp.Lexicographic.{pointwise}
use Rattle.std.specs.List.{IsDistinct, list_any, slice_get}
use Rattle.std.proofs.lemmas.Cmp.{nat_list_eq_equiv}
use Rattle.indexmap.specs.IndexSet.{insert_key}
use Rattle.nm_search.specs.Lists.{Has, Extends}
use Rattle.nm_search.specs.Lists.{StandOnce}
use Rattle.nm_search.proofs.SetLemmas.{inserted, kept_in, once_in}
use Rattle.nm_explored.proofs.MetLemmas.{same_lists}

pub ids_once : (xs : List (List ℕ)) → IsDistinct (pointwise nat_eq) xs → StandOnce xs
ids_once xs distinct = once_in (pointwise nat_eq) nat_list_eq_equiv.refl xs distinct

pub ids_added : (xs ys : List (List ℕ)) (x : List ℕ) → ys ≡ insert_key (pointwise nat_eq) xs x →
    (ys ≡ xs) ⊎ (ys ≡ xs ++ x ∷ [])
ids_added xs ys x is = inserted (pointwise nat_eq) xs ys x is

pub ids_new : (xs ys : List (List ℕ)) (x : List ℕ) (new : Bool) → ys ≡ insert_key (pointwise nat_eq) xs x →
    new ≡ not (list_any (pointwise nat_eq x) xs) → ys ≡ (if new then xs ++ x ∷ [] else xs)
ids_new xs ys x new is fresh = is ∙ by_test (list_any (pointwise nat_eq x) xs) new fresh
  where
    by_test : (b new : Bool) → new ≡ not b → (if b then xs else xs ++ x ∷ []) ≡ (if new then xs ++ x ∷ [] else xs)
    by_test true new fresh = rw fresh refl
    by_test false new fresh = rw fresh refl

-- what was added, by whether it is new
pub by_new : {X : Type 0} (xs ys : List X) (x : X) (new : Bool) → ys ≡ (if new then xs ++ x ∷ [] else xs) →
    (ys ≡ xs) ⊎ (ys ≡ xs ++ x ∷ [])
by_new xs ys x true is = inr is
by_new xs ys x false is = inl is

pub both_new : {X Y : Type 0} (xs xs' : List X) (x : X) (ys ys' : List Y) (y : Y) (new : Bool) →
    xs' ≡ (if new then xs ++ x ∷ [] else xs) → ys' ≡ (if new then ys ++ y ∷ [] else ys) →
    ((xs' ≡ xs) × (ys' ≡ ys)) ⊎ ((xs' ≡ xs ++ x ∷ []) × (ys' ≡ ys ++ y ∷ []))
both_new xs xs' x ys ys' y true one two = inr (one, two)
both_new xs xs' x ys ys' y false one two = inl (one, two)

pub ids_keep : (xs ys : List (List ℕ)) (x : List ℕ) → ys ≡ insert_key (pointwise nat_eq) xs x → Extends xs ys
ids_keep xs ys x is = kept_in xs ys x (ids_added xs ys x is)

pub ids_at : (ys : List (List ℕ)) (id : ℕ) (x : List ℕ) →
    (k : List ℕ) × (slice_get ys id ≡ Some k) × (pointwise nat_eq x k ≡ true) → slice_get ys id ≡ Some x
ids_at ys id x at = at.1 ∙ ap (λ (s : List ℕ). Some s) (sym (same_lists x at.0 at.2))

pub ids_there : (ys : List (List ℕ)) (id : ℕ) (x : List ℕ) →
    (k : List ℕ) × (slice_get ys id ≡ Some k) × (pointwise nat_eq x k ≡ true) → Has ys x
ids_there ys id x at = (id, ids_at ys id x at)
