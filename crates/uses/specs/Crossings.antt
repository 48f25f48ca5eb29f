-- What was sent and taken of a text, one byte in each parcel.
use Rattle.std.specs.Prelude.{◌≡◌, ℕ, List, ◌++◌, length, take}
use Rattle.nm_chain.specs.declared.table.parcels.Parcel.{Parcel}
use Rattle.nm_chain.specs.declared.table.table.Entry.{Entry}
use Rattle.nm_cells.specs.declared.port.Port.{Port}
use Rattle.nm_cells.specs.Ports.{knows, taken_by}
use Rattle.nm_port.specs.CarriedPackets.{HasPassed, HasSent}
use Rattle.uses.specs.declared.letters.Letter.{Letter}

-- the byte that a parcel carries
abbrev pub byte_of : Parcel Letter → ℕ
byte_of p = p.item.byte

-- the one list is a front of the other
pub record IsFront (front whole : List ℕ) : Type 0 where
  pub rest : List ℕ
  pub whole_is : whole ≡ front ++ rest

-- The parcels that a rank sent to the rank j carry the first bytes of a text.
pub record Sends (e : Entry Letter) (j : ℕ) (text : List ℕ) : Type 0 where
  pub bytes : List ℕ
  pub sent : HasSent byte_of e j bytes
  pub front : bytes ≡ take (length bytes) text

-- The parcels that a port passed on of the rank i carry these bytes.
abbrev pub Takes : Port Letter → ℕ → List ℕ → Type 0
Takes p i bytes = HasPassed byte_of (knows p) (taken_by p i) i bytes
