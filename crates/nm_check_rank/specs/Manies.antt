-- How many events are called for since the answer before, and how many were found.
use Rattle.std.specs.Prelude.{Option, Some, None, List, [], ◌∷◌}
use Rattle.nm_check_rank.specs.declared.paired.dues.Due.{Due}
use Rattle.nm_check_rank.specs.declared.paired.dues.Due.TheVariants as due
use Rattle.nm_check_rank.specs.declared.paired.manies.Many.{Many}
use Rattle.nm_check_rank.specs.declared.paired.manies.Many.TheVariants.{Nothing, One, More}

-- how many there are, where two and more are the same
abbrev pub many_of : {X : Type 0} → List X → Many
many_of [] = Nothing
many_of (x ∷ []) = One
many_of (x ∷ y ∷ xs) = More

-- another number of them is called for than was found
abbrev pub many_due : Many → Many → Option Due
many_due Nothing Nothing = None
many_due One One = None
many_due called found = Some (due.Many called found)
