-- What became of the messages that came to a rank, and of its receives.
use Rattle.std.specs.Prelude.{◌≡◌, ℕ, Bool, false, not, if◌then◌else◌, Option, Some, None, List, []}
use Rattle.std.specs.Prelude.{◌++◌, option_map}
use Rattle.std.specs.Prelude.{option_and_then, slice_index_or, ◌==◌, ◌&&◌, IfSome}
use Rattle.std.specs.List.{slice_get}
use Rattle.std.specs.Option.{option_map_or}
use Rattle.nm_types.specs.Sizes.{Sizes}
use Rattle.nm_types.specs.declared.answers.Answer.{Answer}
use Rattle.nm_types.specs.declared.answers.Answer.TheVariants.{Got}
use Rattle.nm_types.specs.declared.messages.Arrival.{Arrival}
use Rattle.nm_history.specs.declared.events.Happened.{Happened}
use Rattle.nm_history.specs.declared.plain.Pair.{Pair}
use Rattle.nm_history.specs.Matching.{is_of_message}
use Rattle.nm_history.specs.Sends.{is_ask}
use Rattle.nm_history.specs.Effects.{whole_if}
use Rattle.nm_match.specs.declared.deeds.Deed.{Deed}
use Rattle.nm_eager.specs.Streams.{Stream, nothing_came}
use Rattle.nm_rndv.specs.Grants.{Granted}
use Rattle.nm_receiving.specs.declared.receipts.Receipt.{Receipt}
use Rattle.nm_receiving.specs.declared.receipts.Receive.{Receive}
use Rattle.nm_receiving.specs.Steps.{bytes_there}

-- What contracts see of a rank's receiving side: the sizes of the run; the deeds of its matcher; by sender
-- what came of eager messages, and what was granted; the messages that came, by sender and number; the
-- receives, by number; and by sender how many pieces continued.
pub record ReceivingView : Type 0 where
  pub sizes : Sizes
  pub deeds : List Deed
  pub streams : List Stream
  pub grants : List (List (ℕ × Granted))
  pub receipts : List (List Receipt)
  pub receives : List Receive
  pub drawn : List ℕ

-- what came of a sender's eager messages
abbrev pub stream_of : ReceivingView → ℕ → Stream
stream_of v from = slice_index_or v.streams from nothing_came

-- what was granted to a sender
abbrev pub granted_to : ReceivingView → ℕ → List (ℕ × Granted)
granted_to v from = slice_index_or v.grants from []

-- the messages that came from a sender
abbrev pub receipts_from : ReceivingView → ℕ → List Receipt
receipts_from v from = slice_index_or v.receipts from []

-- message n of a sender
abbrev pub receipt_of : ReceivingView → ℕ → ℕ → Option Receipt
receipt_of v from n = slice_get (receipts_from v from) n

-- how many pieces of a sender continued
abbrev pub drawn_from : ReceivingView → ℕ → ℕ
drawn_from v from = slice_index_or v.drawn from 0

-- the pair of a receive with this number, if it took a message
abbrev pub pair_with : ℕ → Receive → Option Pair
pair_with number r = option_map (λ a. record { number = number; cap = r.cap; arrival = a }) r.taken

-- the pair of the receive with this number
abbrev pub pair_at : ReceivingView → ℕ → Option Pair
pair_at v number = option_and_then (pair_with number) (slice_get v.receives number)

-- the bytes of a message that came and were not given yet: those of its packets, or of its pieces
abbrev pub bytes_of : ReceivingView → Arrival → Option (List ℕ)
bytes_of v a = bytes_there (stream_of v a.env.from) (granted_to v a.env.from) a

-- the same of a message of which none came yet
abbrev pub came_of : ReceivingView → Arrival → List ℕ
came_of v a = option_map_or (λ bytes. bytes) (bytes_of v a) []

-- the bytes of an eager message of this rank, given by its number
abbrev pub of_eager : ℕ → (ℕ → List ℕ) → Arrival → List ℕ
of_eager from bytes a = if a.env.from == from && not (is_ask a.env.how) then bytes a.n else []

-- the bytes of a message that this rank sent by asking, given by its number
abbrev pub of_asked : ℕ → (ℕ → List ℕ) → Arrival → List ℕ
of_asked from bytes a = if a.env.from == from && is_ask a.env.how then bytes a.n else []

-- to the bytes of each message that came, these were added
abbrev pub AddsBytes : (Arrival → List ℕ) → ReceivingView → ReceivingView → Type 0
AddsBytes more old new = (a : Arrival) → came_of new a ≡ came_of old a ++ more a

-- the bytes of each message that came are the same
abbrev pub SameBytes : ReceivingView → ReceivingView → Type 0
SameBytes old new = (a : Arrival) → came_of new a ≡ came_of old a

-- the bytes of each message that came are the same, but for that of one pair
abbrev pub SameOtherBytes : Option Pair → ReceivingView → ReceivingView → Type 0
SameOtherBytes pair old new =
    (a : Arrival) → option_map_or (is_of_message a.env.from a.n) pair false ≡ false →
    came_of new a ≡ came_of old a

-- the message has no bytes and was asked for, so that a receive that takes it has it whole
abbrev pub is_empty_ask : Arrival → Bool
is_empty_ask a = is_ask a.env.how && a.env.len == 0

-- what follows where a receive takes this message
abbrev pub taken_events : Option Arrival → List Happened
taken_events None = []
taken_events (Some a) = whole_if (is_empty_ask a) a.env.from a.n

-- an answer that shows bytes shows those of the message that the receive took
abbrev pub ShowsBytes : ReceivingView → ℕ → Answer → Type 0
ShowsBytes v number (Got from tag body) =
    IfSome (pair_at v number) (λ pair. bytes_of v pair.arrival ≡ Some body)
ShowsBytes v number _ = Unit {0}
