-- The pieces of long messages that are due, and what a piece makes happen at the rank that takes
-- it.
use Rattle.std.specs.Prelude.{ℕ, zero, suc, ◌+◌, ◌-◌, ◌==◌, Bool, not, ◌&&◌, nat_lt, nat_le, min}
use Rattle.std.specs.Prelude.{if◌then◌else◌, Option, Some, None, List, [], ◌∷◌, ◌++◌, length}
use Rattle.std.specs.Prelude.{filter}
use Rattle.nm_types.specs.declared.limits.TheConstants.{MAX_PIECE}
use Rattle.nm_types.specs.declared.packets.Piece.{Piece}
use Rattle.nm_history.specs.declared.events.Event.{Event}
use Rattle.nm_history.specs.declared.events.Happened.{Happened}
use Rattle.nm_history.specs.declared.plain.Pair.{Pair}
use Rattle.nm_history.specs.Matching.{matched_pairs}
use Rattle.nm_history.specs.Outgoing.{is_clear}
use Rattle.nm_history.specs.Effects.{whole_if}

-- the pair's message is of this rank, was sent by asking and has a body: it comes in pieces
abbrev pub is_granted : ℕ → Pair → Bool
is_granted from pair = is_clear from pair && not (pair.arrival.env.len == 0)

-- the messages of a rank that come in pieces, in the order of the pairs
abbrev pub granted : List Event → ℕ → List Pair
granted h from = filter (is_granted from) (matched_pairs h)

-- a piece that is due: its message, where in it the piece begins, its size, and whether it is the
-- last one
pub record Due : Type 0 where
  pub n : ℕ
  pub at : ℕ
  pub size : ℕ
  pub last : Bool

-- the pieces of a message of this length that are due from a place on, in at most so many turns
abbrev pub due_from : ℕ → ℕ → ℕ → ℕ → List Due
due_from zero n at len = []
due_from (suc turns) n at len =
    if nat_lt at len
    then record {
      n = n;
      at = at;
      size = min MAX_PIECE (len - at);
      last = nat_le len (at + MAX_PIECE);
    }
    ∷ due_from turns n (at + MAX_PIECE) len
    else []

-- the pieces that are due of a message: as many full ones as there are, and the rest
abbrev pub due_of : Pair → List Due
due_of pair = due_from pair.arrival.env.len pair.arrival.n 0 pair.arrival.env.len

-- the pieces that are due of these messages
abbrev pub due_of_all : List Pair → List Due
due_of_all [] = []
due_of_all (pair ∷ pairs) = due_of pair ++ due_of_all pairs

-- the pieces of a rank that are due, in the order in which they come
abbrev pub due_pieces : List Event → ℕ → List Due
due_pieces h from = due_of_all (granted h from)

-- a piece that a rank took, and whether it continued its message
pub record Pulled : Type 0 where
  pub piece : Piece
  pub continued : Bool

-- how many pieces continued: the place of the next one among those that are due
abbrev pub count_continued : List Pulled → ℕ
count_continued pieces = length (filter (λ d. d.continued) pieces)

-- the piece is this due one
abbrev pub is_due : Piece → Due → Bool
is_due q due = q.n == due.n && q.at == due.at && length q.bytes == due.size

-- what a piece of this rank makes happen where this one is due: the last one makes its message
-- whole
abbrev pub piece_makes : ℕ → Option Due → Piece → List Happened
piece_makes from None q = []
piece_makes from (Some due) q = whole_if (is_due q due && due.last) from q.n
