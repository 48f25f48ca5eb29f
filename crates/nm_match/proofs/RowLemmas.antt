-- Places in a row, where what is free is None.
use Rattle.std.proofs.Common.{◌≡◌, ℕ, zero, suc, Option, None, List, [], ◌∷◌, ◌++◌, refl, get_or}

-- free places at the end change none
pub free_beyond : {X : Type 0} (xs free : List (Option X)) → ((i : ℕ) → get_or free i None ≡ None) → (i : ℕ) →
    get_or (xs ++ free) i None ≡ get_or xs i None
free_beyond [] free none i = none i
free_beyond (x ∷ xs) free none zero = refl
free_beyond (x ∷ xs) free none (suc i) = free_beyond xs free none i

-- a single free place
pub one_free : {X : Type 0} (i : ℕ) → get_or {A = Option X} (None ∷ []) i None ≡ None
one_free zero = refl
one_free (suc i) = refl
