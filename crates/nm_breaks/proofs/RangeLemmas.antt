-- What holds of each number of a list.
use Rattle.std.proofs.Common.{ℕ, ◌<◌, suc, List, [], ◌∷◌, get_or, map}
use Rattle.std.specs.List.{AllByRecursion}

pub all_below : (bytes : List ℕ) → ((i : ℕ) → get_or bytes i 0 < 256) → AllByRecursion (λ b. b < 256) bytes
all_below [] each = tt
all_below (b ∷ bytes) each = (each 0, all_below bytes (λ i. each (suc i)))

pub all_mapped : {X Y : Type 0} (P : Y → Type 0) (f : X → Y) (xs : List X) → AllByRecursion (λ x. P (f x)) xs →
    AllByRecursion P (map f xs)
all_mapped P f [] each = tt
all_mapped P f (x ∷ xs) each = (each.0, all_mapped P f xs each.1)
