-- The first that a list's elements give, by the place of the first that gives.
use Rattle.std.proofs.Common.{◌≡◌, ℕ, zero, suc, ◌+◌, ◌<◌, ◌≤◌, ◌||◌, Bool, true, false, cond, Option, Some, None}
use Rattle.std.proofs.Common.{List, [], ◌∷◌, take, get_or, refl, sym, ◌∙◌, ap, arith}
use Rattle.std.specs.Prelude.{IsTrue, filter_map, is_some, nat_lt, position}
use Rattle.std.specs.List.{cons_option, list_any, position_from, slice_get}
use Rattle.std.specs.Option.{option_map_or}
use Rattle.std.proofs.lemmas.Bool.{false≢true}
use Rattle.std.proofs.lemmas.Bool.Decides.{nat_tests}
use Rattle.std.proofs.lemmas.Iterator.Adapters.{position_from-zero}
use Rattle.std.proofs.lemmas.List.Quantifiers.{position-Some}
use Rattle.std.proofs.lemmas.Option.{slice_get-get_or}
use Rattle.nm_lookups.proofs.FirstLemmas.{first_before}

module _ {X Y : Type 0} (f : X → Option Y) where
  -- where nothing gives, nothing is given
  none_given : (xs : List X) → list_any (λ x. is_some (f x)) xs ≡ false → slice_get (filter_map f xs) 0 ≡ None
  none_given [] none = refl
  none_given (x ∷ xs) none = by_first (f x) none (none_given xs)
    where
      by_first : (o : Option Y) → (is_some o || list_any (λ x. is_some (f x)) xs) ≡ false →
          (list_any (λ x. is_some (f x)) xs ≡ false → slice_get (filter_map f xs) 0 ≡ None) →
          slice_get (cons_option o (filter_map f xs)) 0 ≡ None
      by_first None none more = more none
      by_first (Some y) none more = absurd (false≢true (sym none))

  not_before : (i v : ℕ) (xs : List X) → position_from (λ x. is_some (f x)) i xs ≡ Some v → i ≤ v
  not_before i v [] first = cc
  not_before i v (x ∷ xs) first = by_first (is_some (f x)) first (not_before (i + 1) v xs)
    where
      by_first : (b : Bool) → cond b (Some i) (position_from (λ x. is_some (f x)) (i + 1) xs) ≡ Some v →
          (position_from (λ x. is_some (f x)) (i + 1) xs ≡ Some v → i + 1 ≤ v) → i ≤ v
      by_first true first more = let same : i ≡ v = cc in omega (arith, same)
      by_first false first more = let later = more first in omega (arith, later)

  -- the first is given by the first that gives
  first_given : (i t k : ℕ) (xs : List X) (x : X) → position_from (λ x. is_some (f x)) i xs ≡ Some (i + t) →
      slice_get xs t ≡ Some x → t < k →
      slice_get (filter_map f (take k xs)) 0 ≡ f x
  first_given i t zero xs x first here low = absurd (omega arith)
  first_given i t (suc k) [] x first here low = cc
  first_given i t (suc k) (y ∷ xs) x first here low =
      by_first (f y) refl first (λ s later there less. first_given (i + 1) s k xs x later there less)
    where
      by_place : (t : ℕ) → t < suc k → position_from (λ x. is_some (f x)) (i + 1) xs ≡ Some (i + t) →
          slice_get (y ∷ xs) t ≡ Some x →
          ((s : ℕ) → position_from (λ x. is_some (f x)) (i + 1) xs ≡ Some ((i + 1) + s) → slice_get xs s ≡ Some x →
          s < k →
          slice_get (filter_map f (take k xs)) 0 ≡ f x) → slice_get (filter_map f (take k xs)) 0 ≡ f x
      by_place zero low first here more = let late = not_before (i + 1) (i + 0) xs first in absurd (omega (arith, late))
      by_place (suc s) low first here more =
          let sum : i + suc s ≡ (i + 1) + s = omega arith in
          more s (first ∙ ap (λ (n : ℕ). Some n) sum) here (omega (arith, low))

      at_first : (t : ℕ) (z : Option Y) → f y ≡ z → i ≡ i + t → slice_get (y ∷ xs) t ≡ Some x → z ≡ f x
      at_first zero z is same here = let e : y ≡ x = cc in sym is ∙ ap f e
      at_first (suc s) z is same here = absurd (omega (arith, same))

      by_first : (o : Option Y) → f y ≡ o → cond (is_some o) (Some i)
          (position_from (λ x. is_some (f x)) (i + 1) xs) ≡ Some (i + t) →
          ((s : ℕ) → position_from (λ x. is_some (f x)) (i + 1) xs ≡ Some ((i + 1) + s) → slice_get xs s ≡ Some x →
          s < k →
          slice_get (filter_map f (take k xs)) 0 ≡ f x) → slice_get (cons_option o (filter_map f (take k xs))) 0 ≡ f x
      by_first None is first more = by_place t low first here more
      by_first (Some z) is first more = let same : i ≡ i + t = cc in at_first t (Some z) is same here

module _ {X Y : Type 0} (f : X → Option Y) (xs : List X) (k : ℕ) where
  -- nothing is given where no element gives
  pub given_never : position (λ x. is_some (f x)) xs ≡ None → None ≡ slice_get (filter_map f (take k xs)) 0
  given_never first =
      sym (none_given f (take k xs)
      (sym (first_before (λ (x : X). is_some (f x)) k xs)
      ∙ ap (λ (o : Option ℕ). option_map_or (λ t. nat_lt t k) o false) first))

  late : (t : ℕ) → k ≤ t → nat_lt t k ≡ false
  late t high = grind (arith, nat_tests)

  -- .. or the first stands behind
  pub given_later : (t : ℕ) → position (λ x. is_some (f x)) xs ≡ Some t → k ≤ t →
      None ≡ slice_get (filter_map f (take k xs)) 0
  given_later t first high =
      sym (none_given f (take k xs)
      (sym (first_before (λ (x : X). is_some (f x)) k xs)
      ∙ ap (λ (o : Option ℕ). option_map_or (λ t. nat_lt t k) o false) first ∙ late t high))

  -- it is what the first gives
  pub given_before : X → (t : ℕ) (r : Option Y) → position (λ x. is_some (f x)) xs ≡ Some t → t < k →
      ((x : X) → slice_get xs t ≡ Some x → IsTrue (is_some (f x)) → r ≡ f x) →
      r ≡ slice_get (filter_map f (take k xs)) 0
  given_before x t r first low answers =
      let found = position-Some (λ (x : X). is_some (f x)) xs t x first in
      let here : slice_get xs t ≡ Some (get_or xs t x) = slice_get-get_or xs t x found.0 in
      let sum : t ≡ 0 + t = omega arith in
      answers (get_or xs t x) here found.1
      ∙ sym (first_given f 0 t k xs (get_or xs t x)
      (sym (position_from-zero (λ (x : X). is_some (f x)) xs) ∙ first ∙ ap (λ (n : ℕ). Some n) sum) here low)
