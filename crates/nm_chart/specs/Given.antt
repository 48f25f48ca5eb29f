-- What is said of each answer, whatever it is.
use Rattle.std.specs.Prelude.{◌≡◌, ℕ, List, IfSome, Option, Some, drop}
use Rattle.nm_shell.specs.Done as done

-- What was read for an answer. Where no read failed the count of faults of the source is as it was, and where it was
-- read, then to its end or to the limit.
pub record IsReadFor (Unfailed Read : Type 0) (input left : Option (List ℕ)) (old new : ℕ) : Type 0 where
  pub quiet : Unfailed → new ≡ old
  pub whole : Read → IfSome input (λ bytes. left ≡ Some (drop 67108865 bytes))

-- the text of an answer was written, whole and with its status, or the sink failed, which took a front of it
abbrev pub IsSaid : (List ℕ → Type 0) → ℕ → ℕ → Option (List ℕ) → Option (List ℕ) → Type 0 → Type 0
IsSaid Tells its_status status old new fails =
    (text : List ℕ) × Tells text × done.IsSaid text its_status status old new fails
