-- The first byte of a body that is not the one that was sent (MPI 3.1, 3.2.4).
use Rattle.std.specs.Prelude.{◌≡◌, ℕ, MatchOption, Option, List, slice_get}
use Rattle.nm_check_rank.specs.Differ.{DifferFirstAt}
use Rattle.nm_check_rank.specs.declared.paired.dues.Due.{Due}
use Rattle.nm_check_rank.specs.declared.paired.dues.Due.TheVariants.{Byte}

-- the byte that was sent there, and the one that was shown, each where there is one
abbrev pub IsOtherByte : List ℕ → List ℕ → Due → Type 0
IsOtherByte sent shown (Byte at called found) =
    DifferFirstAt shown sent at × (called ≡ slice_get sent at) × (found ≡ slice_get shown at)
IsOtherByte sent shown _ = ⊥

-- the first one, or none where they are the same
abbrev pub IsFirstOtherByte : List ℕ → List ℕ → Option Due → Type 0
IsFirstOtherByte sent shown first = MatchOption first (shown ≡ sent) (IsOtherByte sent shown)
