-- What each call does to a port.
use Rattle.std.specs.Prelude.{◌≡◌, ◌<◌, ℕ, length}
use Rattle.nm_types.specs.declared.packets.Piece.{Piece}
use Rattle.nm_copyring.specs.declared.port.Rings.{Rings}
use Rattle.nm_copyring.specs.declared.port.RingPort.{RingPort}
use Rattle.nm_copyring.specs.Plays.{one_empty, one_full, one_pulled, one_pushed, with_lane}
use Rattle.nm_copyring.specs.Ports.{IsFree, IsFull, Owns, knows, pulled_from, pushed_to}

-- the port is of these rings, and the rank is one of theirs
abbrev pub Reaches : Rings → RingPort → ℕ → Type 0
Reaches r p j = Owns r p × (j < r.ranks)

-- the piece is the port's next one for the rank j
abbrev pub IsNextFor : ℕ → Piece → RingPort → Type 0
IsNextFor j piece p = (piece.from ≡ p.rank) × (piece.number ≡ length (pushed_to p j))

-- it is still these rings' port of the same rank
pub record KeepsRingPort (r : Rings) (p q : RingPort) : Type 0 where
  pub owns : Owns r q
  pub rank : q.rank ≡ p.rank

-- the piece is behind the others that were pushed to the rank j
abbrev pub Pushes : ℕ → Piece → RingPort → RingPort → Type 0
Pushes j piece p q = knows q ≡ with_lane (one_pushed piece) j (knows p)

-- the next place for the rank j was found full
abbrev pub FindsFull : ℕ → RingPort → RingPort → Type 0
FindsFull j p q = knows q ≡ with_lane one_full j (knows p)

-- the next place for the rank j was found free
abbrev pub FindsFree : ℕ → RingPort → RingPort → Type 0
FindsFree j p q = (knows q ≡ knows p) × IsFree q j

-- the piece is the next one by number of the rank i, and behind the others that were pulled from it
pub record Pulls (i : ℕ) (piece : Piece) (p q : RingPort) : Type 0 where
  pub from : piece.from ≡ i
  pub number : piece.number ≡ length (pulled_from p i)
  pub knew : knows q ≡ with_lane (one_pulled piece) i (knows p)

-- the next place of the rank i was found empty
abbrev pub FindsEmpty : ℕ → RingPort → RingPort → Type 0
FindsEmpty i p q = knows q ≡ with_lane one_empty i (knows p)

-- the next place of the rank i was found to have a piece
abbrev pub FindsPiece : ℕ → RingPort → RingPort → Type 0
FindsPiece i p q = (knows q ≡ knows p) × IsFull q i
