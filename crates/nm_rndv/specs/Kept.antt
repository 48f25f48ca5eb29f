-- What the fields of the offers and of the grants keep, which no contract of theirs shows.
use Rattle.std.specs.Prelude.{◌≡◌, ℕ, ◌+◌, ◌≤◌, true, length, List, All, Contains, count_by, sum_by, filter}
use Rattle.std.specs.List.{position_or_len}
use Rattle.std.specs.Map.{keys_of, values_of}
use Rattle.nm_kept.specs.Entering.{Entering, AreLive}
use Rattle.nm_rndv.specs.Grants.{Granted, has_bytes, is_unfinished}
use Rattle.nm_rndv.specs.Offers.{Destined, is_waiting, leaves, cleared_at}

-- how many messages to a destination wait for their clearance
abbrev pub waiting_in : Destined → ℕ
waiting_in d = count_by is_waiting (values_of d.asked)

-- Every message in the order was cleared, and every one that leaves is in the order, of which the
-- first that leaves is known. Each message that waits has a place reserved in the order, and no other has.
pub record OffersInvariant (ds : List Destined) (order : List (ℕ × ℕ)) (first reserved room : ℕ)
    : Type 0 where
  pub cleared : All (λ m. cleared_at ds m ≡ true) order
  pub first_is : first ≡ position_or_len (leaves ds) order
  pub listed : (to n : ℕ) → leaves ds (to, n) ≡ true → Contains order (to, n)
  pub counted : sum_by waiting_in ds ≡ reserved
  pub fits : length order + reserved ≤ room

-- What a sender's grants keep: memory holds those that have their bytes, and the numbers of those that are
-- not whole, in order.
pub record SenderInvariant (grants : Entering Granted) (unfinished : List ℕ) : Type 0 where
  pub live : AreLive has_bytes grants
  pub numbers : unfinished ≡ keys_of (filter is_unfinished grants.entries)
