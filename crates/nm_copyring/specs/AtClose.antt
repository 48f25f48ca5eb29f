-- What is known once all ranks are spoken for by one seat.
use Rattle.std.specs.Prelude.{◌≡◌, ℕ, ◌++◌, ◌-◌, ◌<◌, ◌≤◌, List, [], ◌∷◌, length, slice_index_or}
use lib.ListN.{get_elem?}
use mathlib.Core.Option as maybe
use Rattle.nm_chain.specs.declared.seats.views.View.{View}
use Rattle.nm_chain.specs.Total.{total}
use Rattle.nm_types.specs.declared.packets.Piece.{Piece}
use Rattle.nm_copyring.specs.declared.table.Entry.{Entry}
use Rattle.nm_copyring.specs.Rule.{lane, newcomer}

-- what each rank knew, as a seat keeps it that was made when the table was sealed
abbrev pub seen_in : List (View Entry) → List Entry
seen_in [] = []
seen_in (v ∷ vs) = v.seen

-- the entry of each rank, in order
abbrev pub Gathered : ℕ → List Entry → Type 0
Gathered n es = (length es ≡ n)
    × ((k : ℕ) (e : Entry) → get_elem? es k ≡ maybe.some e → e.rank ≡ k)

-- the entry of the rank r
abbrev pub entry : List Entry → ℕ → Entry
entry es r = slice_index_or es r (newcomer 0 0)

-- what the rank i pushed to the rank j
abbrev pub pushed_in : List Entry → ℕ → ℕ → List Piece
pushed_in es i j = (lane (entry es i) j).pushed

-- what the rank j pulled from the rank i
abbrev pub pulled_in : List Entry → ℕ → ℕ → List Piece
pulled_in es i j = (lane (entry es j) i).pulled

-- what was pulled is the beginning of what was pushed, and at most four pieces are left
abbrev pub Prefixed : ℕ → List Entry → Type 0
Prefixed n es = (i j : ℕ) → i < n → j < n
    → (left : List Piece) × (pushed_in es i j ≡ pulled_in es i j ++ left) × (length left ≤ 4)

-- the pieces that were pushed and not pulled
abbrev pub not_pulled : ℕ → List Entry → ℕ
not_pulled n es = total n (λ i. total n
    (λ j. length (pushed_in es i j) - length (pulled_in es i j)))
