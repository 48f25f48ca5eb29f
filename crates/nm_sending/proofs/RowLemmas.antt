-- A list of rows, seen by what each holds.
use Rattle.std.proofs.Common.{◌≡◌, ℕ, ◌<◌, Some, true, Bool, List, [], length, map, get_or}
use Rattle.std.proofs.Common.{sym, subst, ◌∙◌, ap}
use Rattle.std.specs.List.{slice_get}
use Rattle.std.proofs.Math.ListN.{set}
use Rattle.std.proofs.lemmas.List.{map-set}
use Rattle.nm_types.proofs.RowLemmas.{row_at, row_inside}
use Rattle.nm_sending.specs.declared.departures.Departure.{Departure}
use Rattle.nm_sending.specs.Departures.{IsMost, passes, row_of, with_departure}
use Rattle.nm_sending.specs.Rows.{RowView}
use Rattle.nm_sending.proofs.MostLemmas.{most-set}
use Rattle.nm_sending.proofs.RecalledLemmas.{passing}

-- an element of a row is replaced
pub row-set : {X Z : Type 0} (f : X → List Z) (rows : List X) (i k : ℕ) (row new : X) (z : Z)
    → i < length rows → row ≡ get_or rows i row → f new ≡ set (f row) k z →
    map f (set rows i new) ≡ set (map f rows) i (set (get_or (map f rows) i []) k z)
row-set f rows i k row new z inside read changed =
    map-set f rows i new ∙ ap (λ zs. set (map f rows) i zs)
    (changed ∙ ap (λ zs. set zs k z) (sym (row_at f rows i row [] inside read)))

-- a message of a row changes
module _ (rows : List RowView) (to n : ℕ) (row new : RowView)
    (below : to < length (map (λ (v : RowView). v.items) rows)) (read : row ≡ get_or rows to row) where
  abbrev items : RowView → List Departure
  items = λ v. v.items

  within : to < length rows
  within = row_inside items rows to below

  pub held_at : row_of (map items rows) to ≡ row.items
  held_at = row_at items rows to row [] within read

  pub passes_at : (test : Departure → Bool) → passes test (slice_get (row_of (map items rows) to) n) ≡ true
      → passes test (slice_get row.items n) ≡ true
  passes_at test h = ap (λ (ds : List Departure). passes test (slice_get ds n)) (sym held_at) ∙ h

  module _ (f : Departure → Departure)
      (changed : (d : Departure) → slice_get row.items n ≡ Some d → new.items ≡ set row.items n (f d)) where
    pub rows-changed : (d : Departure) → slice_get (row_of (map items rows) to) n ≡ Some d
        → map items (set rows to new) ≡ with_departure (map items rows) to n (f d)
    rows-changed d there = row-set items rows to n row new (f d) within read
        (changed d (ap (λ (ds : List Departure). slice_get ds n) (sym held_at) ∙ there))

    pub most-changed : (test : Departure → Bool) (most : ℕ)
        → passes test (slice_get (row_of (map items rows) to) n) ≡ true
        → IsMost (map items rows) most → IsMost (map items (set rows to new)) most
    most-changed test most h is =
        let at = passing test (slice_get (row_of (map items rows) to) n) h in
        subst (λ (l : List (List Departure)). IsMost l most) (sym (rows-changed at.0 at.1))
        (most-set (map items rows) to most below is n (f at.0))
