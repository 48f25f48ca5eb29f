-- Sets, each element once.
use Rattle.std.proofs.Common.{◌≡◌, ◌⊎◌, inl, inr, ℕ, ◌<◌, Bool, true, false, Some, List, [], ◌∷◌, ◌++◌, get_or}
use Rattle.std.proofs.Common.{refl, sym, ◌∙◌, ap, arith}
use Rattle.std.specs.Prelude.{if◌then◌else◌, nat_lt}
use Rattle.std.specs.List.{IsDistinct, list_any, slice_get}
use Rattle.std.proofs.lemmas.Bool.{false≢true}
use Rattle.std.proofs.lemmas.Bool.Decides.{nat_tests}
use Rattle.std.proofs.lemmas.Map.Keys.{apart_from_distinct}
use Rattle.std.proofs.lemmas.Option.{get_or_from_slice_get}
use Rattle.indexmap.specs.IndexSet.{insert_key}
use Rattle.nm_types.proofs.ListLemmas.{place_below}
use Rattle.nm_search.specs.Lists.{Extends, StandOnce}
use Rattle.nm_search.proofs.ListLemmas.{keeps_push}

-- a set has each element once
pub once_in : {X : Type 0} (E : X → X → Bool) → ((x : X) → E x x ≡ true) → (xs : List X) → IsDistinct E xs →
    StandOnce xs
once_in {X} E self xs distinct j k x one two = by_order (nat_lt j k) (nat_lt k j) refl refl
  where
    never : (a b : ℕ) → slice_get xs a ≡ Some x → slice_get xs b ≡ Some x → a < b → ⊥
    never a b at_a at_b less =
        let apart = apart_from_distinct E xs a b x distinct less (place_below xs b x at_b) in
        false≢true (sym apart ∙ ap (λ (y : X). E y (get_or xs b x)) (get_or_from_slice_get xs a x x at_a)
        ∙ ap (λ (y : X). E x y) (get_or_from_slice_get xs b x x at_b) ∙ self x)

    by_order : (a b : Bool) → nat_lt j k ≡ a → nat_lt k j ≡ b → j ≡ k
    by_order true b is other = absurd (never j k one two (grind (arith, nat_tests)))
    by_order false true is other = absurd (never k j two one (grind (arith, nat_tests)))
    by_order false false is other = grind (arith, nat_tests)

-- a set keeps what it has
pub inserted : {X : Type 0} (E : X → X → Bool) (xs ys : List X) (x : X) → ys ≡ insert_key E xs x →
    (ys ≡ xs) ⊎ (ys ≡ xs ++ x ∷ [])
inserted {X} E xs ys x is = by_test (list_any (E x) xs) refl
  where
    by_test : (b : Bool) → list_any (E x) xs ≡ b → (ys ≡ xs) ⊎ (ys ≡ xs ++ x ∷ [])
    by_test true so = inl (is ∙ ap (λ (c : Bool). if c then xs else xs ++ x ∷ []) so)
    by_test false so = inr (is ∙ ap (λ (c : Bool). if c then xs else xs ++ x ∷ []) so)

pub kept_in : {X : Type 0} (xs ys : List X) (x : X) → (ys ≡ xs) ⊎ (ys ≡ xs ++ x ∷ []) → Extends xs ys
kept_in {X} xs ys x (inl same) k y here = ap (λ (zs : List X). slice_get zs k) same ∙ here
kept_in {X} xs ys x (inr more) k y here = keeps_push xs ys x more k y here
