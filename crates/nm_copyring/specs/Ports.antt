-- What a port knows, in the words of contracts.
use Rattle.std.specs.Prelude.{◌≡◌, ℕ, List}
use Rattle.nm_types.specs.declared.packets.Piece.{Piece}
use Rattle.nm_copyring.specs.declared.table.Entry.{Entry}
use Rattle.nm_copyring.specs.declared.port.Rings.{Rings}
use Rattle.nm_copyring.specs.declared.port.RingPort.{RingPort}
use Rattle.nm_copyring.specs.Rule.{lane, newcomer}
use Rattle.nm_copyring.specs.declared.table.Look.TheVariants.{Free, Full}
use Rattle.nm_copyring.specs.Plays.{IsOne, mine, unlooked}

-- what the port's seat has seen
abbrev pub sees : RingPort → Entry
sees p = mine p.seat.me

-- what it knows, whatever it found where it looked last
abbrev pub knows : RingPort → Entry
knows p = unlooked (sees p)

-- the port has looked: its next place for the rank j is free
abbrev pub IsFree : RingPort → ℕ → Type 0
IsFree p j = (sees p).look ≡ Free j

-- the port has looked: its next place of the rank i is full
abbrev pub IsFull : RingPort → ℕ → Type 0
IsFull p i = (sees p).look ≡ Full i

-- the pieces that the port pushed to the rank j
abbrev pub pushed_to : RingPort → ℕ → List Piece
pushed_to p j = (lane (knows p) j).pushed

-- the pieces that the port pulled from the rank i
abbrev pub pulled_from : RingPort → ℕ → List Piece
pulled_from p i = (lane (knows p) i).pulled

-- how often the next place for the rank j was found full
abbrev pub full_to : RingPort → ℕ → ℕ
full_to p j = (lane (knows p) j).full

-- how often the next place of the rank i was found empty
abbrev pub empty_from : RingPort → ℕ → ℕ
empty_from p i = (lane (knows p) i).empty

-- the port is one of the rings'
abbrev pub Owns : Rings → RingPort → Type 0
Owns r p = (p.seat.table_id ≡ r.board.shared.table_id) × IsOne r.ranks (knows p)

-- the port of the rank k at the start
abbrev pub IsNew : Rings → RingPort → ℕ → Type 0
IsNew r p k = Owns r p × (p.rank ≡ k) × (knows p ≡ newcomer r.ranks k)
