-- The parcels of an ordered pair of ranks, by number, as the ranks know and count them.
use Rattle.std.specs.Prelude.{◌≡◌, ℕ, zero, suc, ◌<◌, Some, None, List, [], ◌∷◌, ◌++◌, length, slice_index_or}
use native.Mathlib.Decide.{ℕ_discrete}
use Rattle.nm_chain.specs.declared.table.parcels.Parcel.{Parcel}
use Rattle.nm_chain.specs.declared.seats.views.View.{View}
use Rattle.nm_chain.specs.declared.table.table.Entry.{Entry}
use Rattle.nm_chain.specs.Rule.{Load, put_to, from, sent_to}
use Rattle.nm_chain.specs.Plays.{no_entry}
use Rattle.nm_cells.specs.declared.tallies.Tally.{Tally}
use Rattle.nm_cells.specs.Counted.{peer_in}
use Rattle.nm_chain.specs.Update.{pick}

module _ {A : Type 0} where
  -- the parcels among these
  abbrev pub parcels : List (Load A) → List (Parcel A)
  parcels [] = []
  parcels (Some p ∷ ys) = p ∷ parcels ys
  parcels (None ∷ ys) = parcels ys

  -- those with the number k
  abbrev pub numbered : ℕ → List (Parcel A) → List (Parcel A)
  numbered k [] = []
  numbered k (p ∷ ps) = pick (ℕ_discrete p.seq k) (p ∷ numbered k ps) (numbered k ps)

  -- those with the numbers below s, by number
  abbrev pub by_number : ℕ → List (Parcel A) → List (Parcel A)
  by_number zero ps = []
  by_number (suc k) ps = by_number k ps ++ numbered k ps

  -- what a rank sent to the rank j, by number: it put it by box or by cell
  abbrev pub sent_parcels : Entry A → ℕ → List (Parcel A)
  sent_parcels e j = by_number (sent_to j e.put_box e.put)
      (parcels (put_to j e.put_box) ++ parcels (put_to j e.put))

  -- what a rank got of the rank i by box and by cell with numbers below t, by number
  abbrev pub taken_parcels : Entry A → ℕ → ℕ → List (Parcel A)
  taken_parcels e t i = by_number t (parcels (from i e.got_box) ++ parcels (from i e.got))

  -- the one list is the beginning of the other
  abbrev pub Begins : List (Parcel A) → List (Parcel A) → Type 0
  Begins front whole = (left : List (Parcel A)) × (whole ≡ front ++ left)

  -- what each rank knew, as a seat keeps it that was made when the table was sealed
  abbrev pub seen_in : List (View (Entry A)) → List (Entry A)
  seen_in [] = []
  seen_in (v ∷ vs) = v.seen

  -- what the rank i knew, of these in rank order
  abbrev pub entry_in : List (Entry A) → ℕ → Entry A
  entry_in es i = slice_index_or es i no_entry

-- what the rank i counted of each rank
abbrev pub peers_in : List (List Tally) → ℕ → List Tally
peers_in ps i = slice_index_or ps i []

module _ {A : Type 0} where
  -- what the rank i sent to the rank j
  abbrev pub sent_between : List (Entry A) → ℕ → ℕ → List (Parcel A)
  sent_between es i j = sent_parcels (entry_in es i) j

  -- what the rank j passed on of the rank i
  abbrev pub taken_between : List (Entry A) → List (List Tally) → ℕ → ℕ → List (Parcel A)
  taken_between es ps i j = taken_parcels (entry_in es j) (peer_in (peers_in ps j) i).taken i

  -- what n ranks counted are the lengths of these lists
  pub record Tallied (es : List (Entry A)) (ps : List (List Tally)) (n : ℕ) : Type 0 where
    pub ranks : length ps ≡ n
    pub wide : (i : ℕ) → i < n → length (peers_in ps i) ≡ n
    pub sent : (i j : ℕ) → i < n → j < n
        → (peer_in (peers_in ps i) j).sent ≡ length (sent_between es i j)
    pub taken : (i j : ℕ) → i < n → j < n
        → (peer_in (peers_in ps j) i).taken ≡ length (taken_between es ps i j)
