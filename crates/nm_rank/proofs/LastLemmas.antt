-- The last item of a list is the one at its last place.
use Rattle.std.proofs.Common.{◌≡◌, ◌-◌, ◌∙◌, ℕ, suc, Some, List, [], ◌∷◌, refl, ap, arith}
use Rattle.std.specs.Prelude.{length, slice_get}
use Rattle.nm_ghost.specs.Last.{last_of, last_or}

last_or-get : {T : Type 0} (x : T) (xs : List T) → last_or (Some x) xs ≡ slice_get (x ∷ xs) (length xs)
last_or-get x [] = refl
last_or-get x (y ∷ xs) = last_or-get y xs

less_one : (n : ℕ) → n ≡ suc n - 1
less_one n = omega arith

pub last_of-get : {T : Type 0} (xs : List T) → last_of xs ≡ slice_get xs (length xs - 1)
last_of-get [] = refl
last_of-get (x ∷ xs) =
    last_or-get x xs ∙ ap (λ (k : ℕ). slice_get (x ∷ xs) k) (less_one (length xs))
