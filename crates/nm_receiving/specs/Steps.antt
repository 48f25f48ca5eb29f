-- What one step does to the tables of a rank's receiving side.
use Rattle.std.specs.Prelude.{ℕ, true, false, if◌then◌else◌, ◌&&◌, ◌==◌, Option, Some, None, List, []}
use Rattle.std.specs.Prelude.{◌∷◌, ◌++◌, map, slice_index_or, slice_set, ◌≡◌, ◌≤◌, length, IsSomeAnd}
use Rattle.std.specs.Prelude.{option_map, option_and_then}
use Rattle.std.specs.List.{slice_get, range_with_len}
use Rattle.std.specs.Option.{option_map_or}
use Rattle.nm_types.specs.declared.messages.Arrival.{Arrival}
use Rattle.nm_history.specs.Sends.{is_ask}
use Rattle.nm_eager.specs.Joining.{Joining, stream_from}
use Rattle.nm_eager.specs.Streams.{Stream, message_of}
use Rattle.nm_rndv.specs.Grants.{Granted, fresh, grant_in}
use Rattle.nm_receiving.specs.declared.receipts.Receipt.{Receipt}
use Rattle.nm_receiving.specs.declared.receipts.Receive.{Receive}

-- the messages that came, by sender and number, and how many more of each sender there is room for
pub record ReceiptsView : Type 0 where
  pub rows : List (List Receipt)
  pub room : List ℕ

-- the row of a sender
abbrev pub rows_from : {X : Type 0} → List (List X) → ℕ → List X
rows_from rows from = slice_index_or rows from []

-- the message is whole
abbrev pub made_whole : Receipt → Receipt
made_whole r = record r { whole = true }

-- message n of these is whole
abbrev pub with_whole : List Receipt → ℕ → List Receipt
with_whole row n = option_map_or (λ r. slice_set row n (made_whole r)) (slice_get row n) row

-- message n of a sender is whole
abbrev pub rows_with_whole : List (List Receipt) → ℕ → ℕ → List (List Receipt)
rows_with_whole rows from n = slice_set rows from (with_whole (rows_from rows from) n)

-- the receive took this message
abbrev pub has_taken : Arrival → Receive → Receive
has_taken a r = record r { taken = Some a }

-- the receive of this number, if there is one, took this message
abbrev pub with_taken : List Receive → Option ℕ → Arrival → List Receive
with_taken rs None a = rs
with_taken rs (Some k) a = option_map_or (λ r. slice_set rs k (has_taken a r)) (slice_get rs k) rs

-- the receive was cancelled
abbrev pub has_cancelled : Receive → Receive
has_cancelled r = record r { cancelled = true }

-- the receives, of which the one with this number was cancelled
abbrev pub with_cancelled : List Receive → ℕ → List Receive
with_cancelled rs k = option_map_or (λ r. slice_set rs k (has_cancelled r)) (slice_get rs k) rs

-- the grants after a receive took this message
abbrev pub grants_after : List (List (ℕ × Granted)) → Arrival → List (List (ℕ × Granted))
grants_after grants a =
    if is_ask a.env.how
    then slice_set grants a.env.from
    (rows_from grants a.env.from ++ (a.n, fresh a.env.len) ∷ [])
    else grants

-- the messages after a receive took this one
abbrev pub rows_after : List (List Receipt) → Arrival → List (List Receipt)
rows_after rows a =
    if is_ask a.env.how && a.env.len == 0 then rows_with_whole rows a.env.from a.n else rows

-- the same where it took one
abbrev pub grants_with : List (List (ℕ × Granted)) → Option Arrival → List (List (ℕ × Granted))
grants_with grants taken = option_map_or (grants_after grants) taken grants

-- and the messages after it, where it took one
abbrev pub rows_with : List (List Receipt) → Option Arrival → List (List Receipt)
rows_with rows taken = option_map_or (rows_after rows) taken rows

-- the receive of this number ended
abbrev pub has_ended : Receive → Receive
has_ended r = record r { ended = true }

-- the receives, of which the one with this number ended
abbrev pub with_ended : List Receive → ℕ → List Receive
with_ended rs k = option_map_or (λ r. slice_set rs k (has_ended r)) (slice_get rs k) rs

-- all bytes of a message are here: those of its packets, or of its pieces
pub record IsThere (stream : Stream) (grants : List (ℕ × Granted)) (a : Arrival) : Type 0 where
  pub granted :
      is_ask a.env.how ≡ true →
      IsSomeAnd (grant_in grants a.n)
      (λ g. (g.len ≡ a.env.len) × IsSomeAnd g.bytes (λ bytes. length bytes ≡ g.len))
  pub joined :
      is_ask a.env.how ≡ false →
      IsSomeAnd (message_of stream a.n) (λ m. (m.len ≡ a.env.len) × (m.len ≤ length m.bytes))

-- the bytes of a message that are here
abbrev pub bytes_there : Stream → List (ℕ × Granted) → Arrival → Option (List ℕ)
bytes_there stream grants a =
    if is_ask a.env.how
    then option_and_then (λ g. g.bytes) (grant_in grants a.n)
    else option_map (λ m. m.bytes) (message_of stream a.n)

-- what came of eager messages, by sender
abbrev pub streams_of : Joining → List Stream
streams_of joining = map (λ from. stream_from joining from) (range_with_len 0 joining.sizes.ranks)
