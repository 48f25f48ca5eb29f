-- What a kind of element gives, by the elements of the kind alone.
use Rattle.std.proofs.Common.{◌≡◌, cond, Option, Some, None, List, [], ◌∷◌, length, refl}
use Rattle.std.proofs.Common.{◌∙◌, ap, arith}
use Rattle.std.specs.Prelude.{filter_map, is_some}
use Rattle.std.specs.List.{cons_option, filter}

module _ {X Y : Type 0} (f : X → Option Y) where
  pub given_of_passed : (xs : List X) → filter_map f (filter (λ x. is_some (f x)) xs) ≡ filter_map f xs
  given_of_passed [] = refl
  given_of_passed (x ∷ xs) = by_first (f x) refl (given_of_passed xs)
    where
      by_first : (o : Option Y) → f x ≡ o → filter_map f (filter (λ x. is_some (f x)) xs) ≡ filter_map f xs →
          filter_map f (cond (is_some o) (x ∷ filter (λ x. is_some (f x)) xs) (filter (λ x. is_some (f x)) xs))
          ≡ cons_option o (filter_map f xs)
      by_first None is more = more
      by_first (Some y) is more =
          ap (λ (o : Option Y). cons_option o (filter_map f (filter (λ x. is_some (f x)) xs))) is
          ∙ ap (λ (ys : List Y). y ∷ ys) more

  -- as many are given as pass
  pub given_length : (xs : List X) → length (filter_map f xs) ≡ length (filter (λ x. is_some (f x)) xs)
  given_length [] = refl
  given_length (x ∷ xs) = by_first (f x) (given_length xs)
    where
      by_first : (o : Option Y) → length (filter_map f xs) ≡ length (filter (λ x. is_some (f x)) xs) →
          length (cons_option o (filter_map f xs))
          ≡ length (cond (is_some o) (x ∷ filter (λ x. is_some (f x)) xs) (filter (λ x. is_some (f x)) xs))
      by_first None more = more
      by_first (Some y) more = omega (arith, more)
