-- The messages of one sender, as what is kept of them tells.
use Rattle.std.specs.Prelude.{◌≡◌, ℕ, ◌<◌, ◌^◌, ◌||◌, Bool, List, [], ◌∷◌, ◌++◌, fold, length, map}
use Rattle.std.specs.List.{prefix_len}
use Rattle.nm_history.specs.Sends.{is_ask}
use Rattle.nm_kept.specs.Keeping.{Keeping}
use Rattle.nm_receiving.specs.declared.receipts.Receipt.{Receipt}
use Rattle.nm_receiving.specs.declared.rows.Mark.{Mark}
use Rattle.nm_receiving.specs.declared.rows.Mark.TheVariants.{Came, Whole}
use Rattle.nm_receiving.specs.Steps.{with_whole}

-- the messages of a sender that came, by number, and how many more there is room for
pub record RowView : Type 0 where
  pub messages : List Receipt
  pub room : ℕ

-- the messages after one more came, or one was here whole
abbrev pub messages_after : List Receipt → Mark → List Receipt
messages_after rs (Came r) = rs ++ r ∷ []
messages_after rs (Whole n) = with_whole rs n

-- the messages by all that was noted of them
abbrev pub messages_of : List Mark → List Receipt
messages_of marks = fold messages_after [] marks

-- The message is whole, or it was sent by asking: then the bytes that were granted tell whether it is.
abbrev pub is_settled : Receipt → Bool
is_settled r = is_ask r.arrival.env.how || r.whole

-- how many of these at the front are settled
abbrev pub settled_before : List Bool → ℕ
settled_before settled = prefix_len (λ b. b) settled

-- how many messages at the front are settled
abbrev pub settled_front : List Receipt → ℕ
settled_front rs = settled_before (map is_settled rs)

-- What a row keeps: whether each message is settled, of which memory holds those from the first on that is not.
pub record RowKeeps (messages : List Receipt) (settled : Keeping Bool) : Type 0 where
  pub each : settled.items ≡ map is_settled messages
  pub first : settled.forgotten ≡ settled_before settled.items
  pub few : length settled.items < 2 ^ 64
