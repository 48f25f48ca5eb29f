-- What a closed fabric keeps of its ports.
use Rattle.std.specs.Prelude.{◌≡◌, ℕ, ◌<◌, List, length, map}
use Rattle.nm_chain.specs.declared.table.parcels.Parcel.{Parcel}
use Rattle.nm_chain.specs.declared.table.table.Entry.{Entry}
use Rattle.nm_cells.specs.declared.tallies.Tally.{Tally}
use Rattle.nm_cells.specs.declared.closed.Closed.{Closed}
use Rattle.nm_cells.specs.PathLists.{seen_in, sent_between, taken_between}

module _ {A : Type 0} where
  -- what each rank knew at the end, in rank order
  abbrev pub entries : Closed A → List (Entry A)
  entries c = seen_in c.badge.views

  -- what each rank counted at the end, in rank order
  abbrev pub counted : Closed A → List (List Tally)
  counted c = map (λ v. v.items) c.counted.items

  -- how many ranks there were
  abbrev pub ranks_of : Closed A → ℕ
  ranks_of c = length (entries c)

  -- what the rank i sent to the rank j, by number
  abbrev pub sent_list : Closed A → ℕ → ℕ → List (Parcel A)
  sent_list c i j = sent_between (entries c) i j

  -- what the rank j passed on of the rank i, by number
  abbrev pub taken_list : Closed A → ℕ → ℕ → List (Parcel A)
  taken_list c i j = taken_between (entries c) (counted c) i j

  -- of each ordered pair of n ranks, as many parcels were passed on as were sent
  abbrev pub AllTaken : ℕ → Closed A → Type 0
  AllTaken n c = (i j : ℕ) → i < n → j < n → length (taken_list c i j) ≡ length (sent_list c i j)
