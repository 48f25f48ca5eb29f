-- What holds of ranks at their places, and where one of them was replaced.
use Rattle.std.proofs.Common.{◌≡◌, ◌≢◌, ◌⊎◌, inl, inr, ⊎_elim, ℕ, Option, Some, None, List}
use Rattle.std.proofs.Common.{[], ◌∷◌, map, set, refl, sym, ◌∙◌, ap, subst}
use Rattle.std.specs.Prelude.{IfSome, option_map}
use Rattle.std.specs.List.{AllByRecursion, slice_get}
use Rattle.std.proofs.lemmas.Bool.{cases_eq}
use Rattle.std.proofs.lemmas.Option.{same_Some, slice_get-map, slice_get_within}
use Rattle.nm_global.specs.Ranks.{Each, EachTwo, OneRank}
use Rattle.nm_types.proofs.OptionLemmas.{if_some, if_each}
use Rattle.nm_types.proofs.ListLemmas.{get_set_other, get_set_same}

if_mapped : {X Y : Type 0} (f : X → Y) (P : Y → Type 0) (o : Option X) → IfSome o (λ x. P (f x)) →
    IfSome (option_map f o) P
if_mapped f P None holds = tt
if_mapped f P (Some x) holds = holds

-- what holds of what is made of each element
pub mapped_at : {X Y : Type 0} (f : X → Y) (P : Y → Type 0) (xs : List X) (i : ℕ) →
    IfSome (slice_get xs i) (λ x. P (f x)) → IfSome (slice_get (map f xs) i) P
mapped_at f P xs i holds =
    subst (λ o. IfSome o P) (sym (slice_get-map f xs i)) (if_mapped f P (slice_get xs i) holds)

pub along_map : {X Y : Type 0} (f : X → Y) (P : Y → Type 0) (xs : List X) → AllByRecursion P (map f xs) →
    AllByRecursion (λ x. P (f x)) xs
along_map f P [] each = tt
along_map f P (x ∷ xs) each = (each.0, along_map f P xs each.1)

-- what holds of each two ranks, each at its place
pub two_of : (R : ℕ → ℕ → OneRank → OneRank → Type 0) (ranks : List OneRank) →
    ((i j : ℕ) (a b : OneRank) → slice_get ranks i ≡ Some a → slice_get ranks j ≡ Some b → R i j a b) →
    EachTwo R ranks
two_of R ranks each i =
    if_each (λ a. Each (λ j b. R i j a b) ranks) (slice_get ranks i)
    (λ a is j. if_each (R i j a) (slice_get ranks j) (λ b is'. each i j a b is is'))

pub of_two : (R : ℕ → ℕ → OneRank → OneRank → Type 0) (ranks : List OneRank) → EachTwo R ranks →
    (i j : ℕ) (a b : OneRank) → slice_get ranks i ≡ Some a → slice_get ranks j ≡ Some b → R i j a b
of_two R ranks each i j a b is is' =
    if_some (R i j a) (slice_get ranks j) b is'
    (if_some (λ a. Each (λ j b. R i j a b) ranks) (slice_get ranks i) a is (each i) j)

-- a rank of the list after rank i was replaced, and the one that stood there before
pub record Before (ranks : List OneRank) (i : ℕ) (a a' : OneRank) (m : ℕ) (x' : OneRank) : Type 0 where
  pub x : OneRank
  pub is : slice_get ranks m ≡ Some x
  pub either : ((m ≡ i) × (x ≡ a) × (x' ≡ a')) ⊎ ((m ≢ i) × (x' ≡ x))

before : (ranks : List OneRank) (i : ℕ) (a a' : OneRank) → slice_get ranks i ≡ Some a →
    (m : ℕ) (x' : OneRank) → slice_get (set ranks i a') m ≡ Some x' → Before ranks i a a' m x'
before ranks i a a' here m x' is = ⊎_elim same other (cases_eq m i) where
  same : m ≡ i → Before ranks i a a' m x'
  same at =
      let now : Some a' ≡ Some x' =
      sym (get_set_same ranks i a' (slice_get_within ranks i a here))
      ∙ ap (slice_get (set ranks i a')) (sym at) ∙ is in
      record {
        x = a;
        is = ap (slice_get ranks) at ∙ here;
        either = inl (at, refl, sym (same_Some a' x' now));
      }

  other : m ≢ i → Before ranks i a a' m x'
  other at =
      record { x = x'; is = sym (get_set_other ranks i m a' at) ∙ is; either = inr (at, refl) }

-- What a rank does changes what holds of it and each other: first where it is the first one of two, then
-- where it is the second.
pub two_after : (R M R' : ℕ → ℕ → OneRank → OneRank → Type 0) (ranks : List OneRank) (i : ℕ)
    (a a' : OneRank) → slice_get ranks i ≡ Some a →
    ((n : ℕ) (y : OneRank) → R i n a y → M i n a' y) →
    ((m n : ℕ) (x y : OneRank) → m ≢ i → R m n x y → M m n x y) →
    ((m : ℕ) (x : OneRank) → M m i x a → R' m i x a') →
    ((m n : ℕ) (x y : OneRank) → n ≢ i → M m n x y → R' m n x y) →
    EachTwo R ranks → EachTwo R' (set ranks i a')
two_after R M R' ranks i a a' here first first_other second second_other each =
    two_of R' (set ranks i a') (λ m n x' y' is is'.
    by_second m n x' y' (before ranks i a a' here n y' is') (λ y at.
    by_first m n x' y (before ranks i a a' here m x' is) at))
  where
    by_first : (m n : ℕ) (x' y : OneRank) → Before ranks i a a' m x' → slice_get ranks n ≡ Some y → M m n x' y
    by_first m n x' y w at = by w.either (of_two R ranks each m n w.x y w.is at) where
      by : ((m ≡ i) × (w.x ≡ a) × (x' ≡ a')) ⊎ ((m ≢ i) × (x' ≡ w.x)) → R m n w.x y → M m n x' y
      by (inl s) holds =
          subst (λ (x : OneRank). M m n x y) (sym s.2)
          (subst (λ (k : ℕ). M k n a' y) (sym s.0)
          (first n y (subst (λ (k : ℕ). R k n a y) s.0 (subst (λ (x : OneRank). R m n x y) s.1 holds))))
      by (inr s) holds =
          subst (λ (x : OneRank). M m n x y) (sym s.1) (first_other m n w.x y s.0 holds)

    by_second : (m n : ℕ) (x' y' : OneRank) → Before ranks i a a' n y' →
        ((y : OneRank) → slice_get ranks n ≡ Some y → M m n x' y) → R' m n x' y'
    by_second m n x' y' w holds = by w.either (holds w.x w.is) where
      by : ((n ≡ i) × (w.x ≡ a) × (y' ≡ a')) ⊎ ((n ≢ i) × (y' ≡ w.x)) → M m n x' w.x → R' m n x' y'
      by (inl s) holds =
          subst (λ (y : OneRank). R' m n x' y) (sym s.2)
          (subst (λ (k : ℕ). R' m k x' a') (sym s.0)
          (second m x' (subst (λ (k : ℕ). M m k x' a) s.0 (subst (λ (y : OneRank). M m n x' y) s.1 holds))))
      by (inr s) holds =
          subst (λ (y : OneRank). R' m n x' y) (sym s.1) (second_other m n x' w.x s.0 holds)
