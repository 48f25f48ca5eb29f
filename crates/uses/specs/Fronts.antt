-- Bytes of pieces, and fronts of lists.
use Rattle.std.specs.Prelude.{◌≡◌, ℕ, List, ◌++◌, flat_map}
use Rattle.nm_types.specs.declared.packets.Piece.{Piece}

-- the bytes that pieces carry, in order
abbrev pub bytes_in : List Piece → List ℕ
bytes_in pieces = flat_map (λ piece. piece.bytes) pieces

-- the one list is a front of the other
pub record IsFront (front whole : List ℕ) : Type 0 where
  pub rest : List ℕ
  pub whole_is : whole ≡ front ++ rest
