-- The receives of a rank, of which memory holds those from the first on that did not end.
use Rattle.std.specs.Prelude.{◌≡◌, ℕ, ◌≤◌, ◌^◌, Bool, false, not, ◌&&◌, nat_lt, min, length, List, Option}
use Rattle.std.specs.List.{position_or_len, slice_get}
use Rattle.std.specs.Option.{option_map_or}
use Rattle.nm_kept.specs.Entering.{kept_if}
use Rattle.nm_kept.specs.Keeping.{Keeping}
use Rattle.nm_receiving.specs.declared.receipts.Receive.{Receive}

-- the receives by number, and for how many more there is a place
pub record ReceivesView : Type 0 where
  pub items : List Receive
  pub room : ℕ

-- the receive did not end
abbrev pub is_live : Receive → Bool
is_live r = not r.ended

-- the receive of this number ended: its result was given
abbrev pub has_ended_at : List Receive → ℕ → Bool
has_ended_at rs k = option_map_or (λ r. r.ended) (slice_get rs k) false

-- the receive of this number, if it did not end
abbrev pub live_at : List Receive → ℕ → Option Receive
live_at rs k = kept_if is_live (slice_get rs k)

-- the number of the first receive that did not end; how many there are, if all did
abbrev pub first_live : List Receive → ℕ
first_live rs = position_or_len is_live rs

-- receive k is let go where it is the first in memory: it ended, and not too many were let go
abbrev pub goes : List Receive → ℕ → Bool
goes rs k = has_ended_at rs k && nat_lt k (2 ^ 62)

-- Those before the first that did not end were let go, but never more than 2^62: so a receive's number
-- has 64 bits.
pub record ReceivesInvariant (kept : Keeping Receive) : Type 0 where
  pub first : kept.forgotten ≡ min (first_live kept.items) (2 ^ 62)
  pub fits : length kept.items ≤ kept.places
