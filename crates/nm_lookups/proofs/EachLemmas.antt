-- What holds of each element, one element after another, as a loop finds it.
use Rattle.std.proofs.Common.{◌≡◌, ℕ, ◌+◌, ◌<◌, ◌≤◌, List, [], ◌∷◌, ◌++◌, length, take, drop, get_or, sym, subst}
use Rattle.std.specs.List.{AllByRecursion}
use Rattle.std.proofs.lemmas.List.{take_all}
use Rattle.nm_types.proofs.ListLemmas.{take_next, split_at}

module _ {X : Type 0} (P : X → Type 0) where
  each_push : (xs : List X) (x : X) → AllByRecursion P xs → P x → AllByRecursion P (xs ++ x ∷ [])
  each_push [] x each here = (here, tt)
  each_push (y ∷ xs) x each here = (each.0, each_push xs x each.1 here)

  each_split : (before : List X) (x : X) (after : List X) → AllByRecursion P (before ++ x ∷ after) → P x
  each_split [] x after each = each.0
  each_split (y ∷ before) x after each = each_split before x after each.1

  pub each_next : (xs : List X) (k : ℕ) (x : X) → k < length xs → x ≡ get_or xs k x →
      AllByRecursion P (take k xs) → P x → AllByRecursion P (take (k + 1) xs)
  each_next xs k x inside is each here =
      subst (λ (ys : List X). AllByRecursion P ys) (sym (take_next xs k x inside is))
      (each_push (take k xs) x each here)

  pub one_breaks : (xs : List X) (k : ℕ) (x : X) → k < length xs → x ≡ get_or xs k x → (P x → ⊥) →
      AllByRecursion P xs → ⊥
  one_breaks xs k x inside is broken each =
      broken (each_split (take k xs) x (drop (k + 1) xs)
      (subst (λ (ys : List X). AllByRecursion P ys) (split_at xs k x inside is) each))

  pub each_kept : (xs : List X) (k : ℕ) → length xs ≤ k → AllByRecursion P (take k xs) → AllByRecursion P xs
  each_kept xs k over each = subst (λ (ys : List X). AllByRecursion P ys) (take_all k xs over) each
