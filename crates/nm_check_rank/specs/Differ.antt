-- Where two lists differ first.
use Rattle.std.specs.Prelude.{◌≡◌, ◌≢◌, ℕ, List, take, slice_get}

-- the items before this place are the same in both lists, and the one at it is another in each, or is in one alone
pub record DifferFirstAt {X : Type 0} (xs ys : List X) (k : ℕ) : Type 0 where
  pub same : take k xs ≡ take k ys
  pub other : slice_get xs k ≢ slice_get ys k
