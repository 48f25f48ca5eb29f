-- What was put and got of a text, one byte in each cell.
use Rattle.std.specs.Prelude.{◌≡◌, ℕ, Some, None, List, [], ◌∷◌, ◌++◌, flat_map, length, take}
use Rattle.nm_chain.specs.declared.table.table.Entry.{Entry}
use Rattle.nm_chain.specs.Rule.{Load, from, put_to}
use Rattle.uses.specs.declared.letters.Letter.{Letter}

-- the byte of a cell's parcel, and none of an empty cell
abbrev pub bytes_of : Load Letter → List ℕ
bytes_of (Some p) = p.item.byte ∷ []
bytes_of None = []

-- the bytes of cells, in order
abbrev pub bytes_in : List (Load Letter) → List ℕ
bytes_in cells = flat_map bytes_of cells

-- the one list is a front of the other
pub record IsFront (front whole : List ℕ) : Type 0 where
  pub rest : List ℕ
  pub whole_is : whole ≡ front ++ rest

-- The cells that a rank put into the queue of the rank 1 have the first bytes of a text, one each, and
-- nothing went by box.
pub record Puts (e : Entry Letter) (text : List ℕ) : Type 0 where
  pub bytes : bytes_in (put_to 1 e.put) ≡ take (length (put_to 1 e.put)) text
  pub no_box : put_to 1 e.put_box ≡ []

-- the cells of the rank 0 that a rank got have these bytes
abbrev pub Gets : Entry Letter → List ℕ → Type 0
Gets e bytes = bytes ≡ bytes_in (from 0 e.got)

-- what was put and got by cell, and put by box, is the same
abbrev pub SameLists : Entry Letter → Entry Letter → Type 0
SameLists old new = (new.put ≡ old.put) × (new.put_box ≡ old.put_box) × (new.got ≡ old.got)
