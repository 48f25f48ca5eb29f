-- The pieces in which the body of a long message is sent.
use Rattle.std.specs.Prelude.{ℕ, ◌+◌, ◌-◌, ◌*◌, ◌/◌, List, map, take, drop, length, min}
use Rattle.std.specs.List.{range_with_len}
use Rattle.nm_types.specs.declared.limits.TheConstants.{MAX_PIECE}

-- the piece at place k of some bytes
abbrev pub piece_at : List ℕ → ℕ → List ℕ
piece_at bytes k = take MAX_PIECE (drop (MAX_PIECE * k) bytes)

-- how many pieces so many bytes make: one for every full piece, and one for the rest
abbrev pub piece_count : ℕ → ℕ
piece_count len = (len + (MAX_PIECE - 1)) / MAX_PIECE

-- all pieces of some bytes, in order
abbrev pub pieces_of : List ℕ → List (List ℕ)
pieces_of bytes = map (piece_at bytes) (range_with_len 0 (piece_count (length bytes)))

-- how many bytes the next piece has, where so many remain
abbrev pub piece_size : ℕ → ℕ
piece_size remaining = min MAX_PIECE remaining
