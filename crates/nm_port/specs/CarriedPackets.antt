-- What the parcels carry that a port sent and passed on, as lists by number.
use Rattle.std.specs.Prelude.{◌≡◌, ◌⊎◌, ℕ, ◌==◌, IfSome, Some, List, [], ◌∷◌, ◌++◌, length, if◌then◌else◌}
use Rattle.std.specs.List.{slice_get}
use Rattle.nm_chain.specs.declared.table.parcels.Parcel.{Parcel}
use Rattle.nm_chain.specs.declared.table.table.Entry.{Entry}
use Rattle.nm_chain.specs.Rule.{Load, from, put_to, sent_to}
use Rattle.nm_cells.specs.Counted.{IsOneOf}

-- what is seen of a parcel, as its item, is up to the caller
module _ {A B : Type 0} (seen : Parcel A → B) where
  -- so one sees the parcel with the number k, which went by box or by cell
  pub record IsListed (boxes cells : List (Load A)) (k : ℕ) (b : B) : Type 0 where
    pub parcel : Parcel A
    pub seen_as : seen parcel ≡ b
    pub number : parcel.seq ≡ k
    pub went : IsOneOf (Some parcel) boxes ⊎ IsOneOf (Some parcel) cells

  -- so one sees the parcels, which are numbered from 0 on
  pub record AreListed (boxes cells : List (Load A)) (bs : List B) : Type 0 where
    pub each : (k : ℕ) → IfSome (slice_get bs k) (IsListed boxes cells k)

  -- A rank sent parcels that are so seen to the rank j, as many as it counts.
  pub record HasSent (e : Entry A) (j : ℕ) (bs : List B) : Type 0 where
    pub listed : AreListed (put_to j e.put_box) (put_to j e.put) bs
    pub many : length bs ≡ sent_to j e.put_box e.put

  -- A rank passed parcels of the rank i on that are so seen, t of them.
  pub record HasPassed (e : Entry A) (t i : ℕ) (bs : List B) : Type 0 where
    pub listed : AreListed (from i e.got_box) (from i e.got) bs
    pub many : length bs ≡ t

-- one more, where it is of this rank
abbrev pub one_more : {B : Type 0} → ℕ → ℕ → B → List B → List B
one_more here there b bs = if here == there then bs ++ b ∷ [] else bs
