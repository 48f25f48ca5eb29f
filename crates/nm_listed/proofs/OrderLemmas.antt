-- Texts that are sorted, and of which each stands once.
use Rattle.std.proofs.Common.{◌≡◌, ℕ, ◌<◌, ◌⊎◌, refl, sym, ◌∙◌, ap, subst, inl, inr, arith}
use Rattle.std.specs.Prelude.{◌+◌, List, [], ◌∷◌, Contains, map, length, fold, nat_eq, sum_by}
use Rattle.std.specs.List.{All, AllByRecursion, dedup, slice_index_or}
use Rattle.std.specs.List.Sorted.{IsPermutation, IsStrictlySortedBy}
use Rattle.std.specs.Cmp.Lexicographic.{slice_cmp, pointwise, bytes_decides}
use Rattle.std.specs.Cmp.Lexicographic.{on_texts_equal}
use Rattle.std.specs.Ordering.{MatchOrdering, nat_cmp, on, ordering_then}
use Rattle.std.specs.declared.cmp.Ordering.{Ordering}
use Rattle.std.specs.declared.cmp.Ordering.TheVariants.{Less, Equal, Greater}
use Rattle.std.proofs.lemmas.Cmp.{ranked}
use Rattle.std.proofs.lemmas.List.{get_or-map, length-map}
use Rattle.std.proofs.lemmas.List.Elements.{All-cons, All-nil, Contains-get_or}
use Rattle.std.proofs.lemmas.List.Kept.{Any-dedup, Contains-from_dedup}
use Rattle.std.proofs.lemmas.List.Sorted.{Contains-permutation, IsPermutation-map, IsPermutation-sym}
use Rattle.nm_outcomes.specs.Outcomes.{AreRising, IsBefore}
use Rattle.nm_listed.specs.Texts.{SameTexts}

-- what the comparison of std calls less stands before
before_by : (x y : ℕ) (xs ys : List ℕ) (r : Ordering) → MatchOrdering r (x < y) (x ≡ y) (y < x) →
    (slice_cmp nat_cmp xs ys ≡ Less → IsBefore xs ys) →
    ordering_then r (slice_cmp nat_cmp xs ys) ≡ Less → (x < y) ⊎ ((x ≡ y) × IsBefore xs ys)
before_by x y xs ys Less h further e = inl h
before_by x y xs ys Equal h further e = inr (h, further e)
before_by x y xs ys Greater h further e = cc

pub before : (xs ys : List ℕ) → slice_cmp nat_cmp xs ys ≡ Less → IsBefore xs ys
before [] [] e = cc
before [] (y ∷ ys) e = tt
before (x ∷ xs) [] e = cc
before (x ∷ xs) (y ∷ ys) e =
    before_by x y xs ys (nat_cmp x y) (ranked x y (nat_cmp x y) refl) (before xs ys) e

module _ {X : Type 0} (f : X → List ℕ) where
  -- a text that is less than each of a list stands before each of them
  all_before : (x : X) (xs : List X) →
      AllByRecursion (λ y. slice_cmp nat_cmp (f x) (f y) ≡ Less) xs → All (IsBefore (f x)) (map f xs)
  all_before x [] h = All-nil (IsBefore (f x))
  all_before x (y ∷ ys) h =
      All-cons (IsBefore (f x)) (f y) (map f ys) (before (f x) (f y) h.0) (all_before x ys h.1)

  -- what is strictly sorted rises
  pub rising : (xs : List X) → IsStrictlySortedBy (λ x y. slice_cmp nat_cmp (f x) (f y)) xs →
      AreRising (map f xs)
  unfolding IsStrictlySortedBy
  rising [] h = tt
  rising (x ∷ xs) h = (all_before x xs h.0, rising xs h.1)

  -- the image of an element is among the images
  pub image_is_there : (xs : List X) (x : X) → Contains xs x → Contains (map f xs) (f x)
  image_is_there xs x (k, below, is) =
      (k, rw length-map below, get_or-map f xs k x (f x) below ∙ ap f is)

  -- an image is that of an element
  pub element_of_image : (xs : List X) (t : List ℕ) → Contains (map f xs) t →
      (x : X) × Contains xs x × (f x ≡ t)
  element_of_image [] t (k, below, is) = absurd (omega arith)
  element_of_image (x ∷ xs) t (k, below, is) =
      let inside : k < length (x ∷ xs) = omega (arith, length-map (x ∷ xs) f) in (
        slice_index_or (x ∷ xs) k x,
        Contains-get_or (x ∷ xs) k x inside,
        sym (get_or-map f (x ∷ xs) k x t inside) ∙ is,
      )

  -- of what is in another order, and of which each then stands once, the texts are the same
  pub same_texts : (xs ys : List X) → IsPermutation xs ys →
      SameTexts (map f xs) (map f (dedup (λ x y. pointwise nat_eq (f x) (f y)) ys))
  same_texts xs ys moved text = (
    λ there.
        let at = element_of_image ys text
        (Contains-permutation (map f xs) (map f ys) text (IsPermutation-map f xs ys moved) there) in
        let kept = Any-dedup (on_texts_equal f) ys at.0 at.1 in
        let same : f kept.1 ≡ text = sym ((bytes_decides (f at.0) (f kept.1)).0 kept.4) ∙ at.2 in
        subst (Contains (map f (dedup (on f (pointwise nat_eq)) ys))) same
        (image_is_there (dedup (on f (pointwise nat_eq)) ys) kept.1 (kept.0, kept.2, kept.3)),
    λ there.
        let at = element_of_image (dedup (on f (pointwise nat_eq)) ys) text there in
        let before : Contains ys at.0 = Contains-from_dedup (on f (pointwise nat_eq)) ys at.0 at.1 in
        Contains-permutation (map f ys) (map f xs) text
        (IsPermutation-sym (map f xs) (map f ys) (IsPermutation-map f xs ys moved))
        (subst (Contains (map f ys)) at.2 (image_is_there ys at.0 before)),
  )

  -- the same, where what is left has a name
  pub same_kept : (xs ys zs : List X) → IsPermutation xs ys →
      zs ≡ dedup (λ x y. pointwise nat_eq (f x) (f y)) ys → SameTexts (map f xs) (map f zs)
  same_kept xs ys zs moved e =
      subst (λ kept. SameTexts (map f xs) (map f kept)) (sym e) (same_texts xs ys moved)

  -- the length of all images
  length_from : (n : ℕ) (xs : List X) →
      fold (λ a t. a + length t) n (map f xs) ≡ fold (λ a x. a + length (f x)) n xs
  length_from n [] = refl
  length_from n (x ∷ xs) = length_from (n + length (f x)) xs

  pub length_of_images : (xs : List X) → sum_by length (map f xs) ≡ sum_by (λ x. length (f x)) xs
  length_of_images xs = length_from 0 xs
