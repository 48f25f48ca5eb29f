-- The next box of each ordered pair, and the boxes at work, as a rank knows them.
use Rattle.std.specs.Prelude.{◌≡◌, ◌≢◌, ℕ, ◌%◌, ◌<◌, Bool, true, false, Option, Some, None, List}
use Rattle.std.specs.Prelude.{length, slice_index_or}
use Rattle.nm_chain.specs.declared.table.table.Entry.{Entry}
use Rattle.nm_chain.specs.Rule.{Load, put_to, from, box_slot}

module _ {A : Type 0} where
  -- what a box that is being filled holds
  abbrev pub to_fill : Bool → Option (Load A)
  to_fill true = Some None
  to_fill false = None

module _ {A : Type 0} (rank n each : ℕ) (put_box : List (ℕ × Load A)) (got_box : List (Load A)) where
  -- the slot of the rank's next box for the rank j, or else of its next box of the rank j
  abbrev pub box_at : Bool → ℕ → ℕ
  box_at true j = box_slot n each rank j (length (put_to j put_box) % 4)
  box_at false j = box_slot n each j rank (length (from j got_box) % 4)

module _ {A : Type 0} (filling : List Bool) (emptying : List (Option (Load A))) where
  -- what that box holds, where the rank is filling or emptying it
  abbrev pub work_at : Bool → ℕ → Option (Load A)
  work_at true j = to_fill (slice_index_or filling j false)
  work_at false j = slice_index_or emptying j None

module _ {A : Type 0} where
  -- the slot of the rank's next box for the rank j, or else of the rank j
  abbrev pub next_box : Entry A → Bool → ℕ → ℕ
  next_box e = box_at e.rank e.ranks e.each e.put_box e.got_box

  -- what it holds, where the rank is filling or emptying it
  abbrev pub work : Entry A → Bool → ℕ → Option (Load A)
  work e = work_at e.filling e.emptying

  -- of n ranks, no box is being filled and emptied at once
  abbrev pub AreApart : ℕ → (Bool → ℕ → ℕ) → (Bool → ℕ → Option (Load A)) → Type 0
  AreApart n box x = (j i : ℕ) → j < n → i < n → (y z : Load A) → x true j ≡ Some y
      → x false i ≡ Some z → box true j ≢ box false i

  -- no box of the rank is being filled and emptied at once
  abbrev pub BoxesApart : Entry A → Type 0
  BoxesApart e = AreApart e.ranks (next_box e) (work e)
