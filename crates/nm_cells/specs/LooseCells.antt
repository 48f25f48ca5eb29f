-- The cells of a port that are loose.
use Rattle.std.specs.Prelude.{◌≡◌, ℕ, ◌/◌, ◌<◌, ◌≤◌, None, List, length}
use Rattle.nm_chain.specs.declared.table.table.Hand.TheVariants.{Held}
use Rattle.nm_chain.specs.declared.table.table.Entry.{Entry}
use Rattle.nm_chain.specs.Rule.{Load, hand}
use Rattle.nm_chain.specs.Plays.{load_in}
use Rattle.nm_cells.specs.declared.loose.LooseCells.{LooseCells}

-- the cell c is one of these
abbrev pub IsAmong : LooseCells → ℕ → Type 0
IsAmong x c = (x.first ≤ c) × (c < x.end)

module _ {A : Type 0} where
  -- each of these is the rank's own, is in its seat's hand, and is empty
  abbrev pub AreKept : LooseCells → Entry A → List (ℕ × Load A) → Type 0
  AreKept x e slots = (c : ℕ) → IsAmong x c → (c < length e.hands) × (hand e c ≡ Held)
      × (load_in c slots ≡ None) × (c / e.each ≡ e.rank)
