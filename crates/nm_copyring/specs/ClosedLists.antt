-- What closed rings keep of their ports.
use Rattle.std.specs.Prelude.{ℕ, List, map}
use Rattle.nm_types.specs.declared.packets.Piece.{Piece}
use Rattle.nm_copyring.specs.declared.table.Entry.{Entry}
use Rattle.nm_copyring.specs.declared.close.RingAccount.{RingAccount}
use Rattle.nm_copyring.specs.AtClose.{pushed_in, pulled_in, seen_in}
use Rattle.nm_copyring.specs.Plays.{unlooked}

-- what each rank knew at the end, in rank order
abbrev pub entries : RingAccount → List Entry
entries a = map unlooked (seen_in a.badge.views)

-- what the rank i pushed to the rank j
abbrev pub pushed_list : RingAccount → ℕ → ℕ → List Piece
pushed_list a i j = pushed_in (entries a) i j

-- what the rank j pulled from the rank i
abbrev pub pulled_list : RingAccount → ℕ → ℕ → List Piece
pulled_list a i j = pulled_in (entries a) i j
