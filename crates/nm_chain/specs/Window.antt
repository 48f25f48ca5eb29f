-- A window of B places between one producer and one consumer: the k-th item that is put stands in the
-- place k mod B until it is got. The flag of a place is 0, or the mark of the item in it. Its slot is at
-- home, or it is out with the producer that fills it or the consumer that empties it.
use Rattle.std.specs.Prelude.{◌≡◌, ◌≢◌, ℕ, zero, suc, ◌+◌, ◌%◌, ◌<◌, ◌≤◌, Bool, true, false, Option}
use Rattle.std.specs.Prelude.{Some, None, List, ◌∷◌, ◌++◌, length}
use mathlib.Core.Option as maybe
use lib.ListN.{get_elem?}

-- a function is as it was on the places below B, but x at the place of the k-th item
abbrev pub Changes : {A : Type 0} → ℕ → (ℕ → A) → (ℕ → A) → ℕ → A → Type 0
Changes B f g k x = (g (k % B) ≡ x) × ((j : ℕ) → j < B → j ≢ k % B → g j ≡ f j)

module _ {L : Type 0} where
  -- no item is refused
  abbrev pub Any : L → Type 0
  Any y = Unit {0}

  -- the slot of the t-th full place, of which the consumer may be emptying the first
  abbrev pub slot_full : Option L → ℕ → L → maybe.Option (maybe.Option L)
  slot_full None t y = maybe.some (maybe.some y)
  slot_full (Some z) zero y = maybe.some maybe.none
  slot_full (Some z) (suc t) y = maybe.some (maybe.some y)

  -- the slot of the d-th free place, of which the producer may be filling the first
  abbrev pub slot_free : L → Bool → ℕ → maybe.Option (maybe.Option L)
  slot_free none false d = maybe.some (maybe.some none)
  slot_free none true zero = maybe.some maybe.none
  slot_free none true (suc d) = maybe.some (maybe.some none)

  module _ (B : ℕ) (none : L) (mark : L → ℕ) (fits : L → Type 0) where
    -- what was put is what was got, and then what waits in the places, in order
    pub record Window (flag : ℕ → ℕ) (slot : ℕ → maybe.Option (maybe.Option L)) (filling : Bool)
        (emptying : Option L) (put got waits : List L) : Type 0 where
      pub path : put ≡ got ++ waits
      pub few : length waits ≤ B
      -- a place that is being filled is free
      pub room : filling ≡ true → length waits < B
      -- a place that is being emptied is the first full one
      pub first : (y : L) → emptying ≡ Some y → (ys : List L) × (waits ≡ y ∷ ys)
      pub full : (t : ℕ) (y : L) → get_elem? waits t ≡ maybe.some y
          → fits y × (flag ((length got + t) % B) ≡ mark y) ×
          (slot ((length got + t) % B) ≡ slot_full emptying t y)
      pub free : (d : ℕ) → length waits + d < B
          → (flag ((length put + d) % B) ≡ 0) ×
          (slot ((length put + d) % B) ≡ slot_free none filling d)
