-- A list of two, from which the second was taken out before the first.
use Rattle.std.proofs.Common.{◌≡◌, List, [], ◌∷◌, get_or, refl}
use Rattle.std.specs.Prelude.{remove}

pub first_kept : {X : Type 0} (xs : List X) (x : X) → get_or (remove xs 1) 0 x ≡ get_or xs 0 x
first_kept [] x = refl
first_kept (y ∷ ys) x = refl
