-- What became of the messages that a rank sent, by destination and number.
use Rattle.std.specs.Prelude.{ℕ, ◌==◌, ◌&&◌, ◌||◌, Bool, true, false, Option, Some, None, List, []}
use Rattle.std.specs.Prelude.{◌≤◌, length, map, filter, filter_map, slice_index_or, slice_set, if◌then◌else◌}
use Rattle.std.specs.List.{slice_get}
use Rattle.std.specs.Option.{option_map_or, option_map, option_and_then}
use Rattle.nm_types.specs.declared.answers.Answer.{Answer}
use Rattle.nm_types.specs.declared.answers.Answer.TheVariants as answer
use Rattle.nm_types.specs.declared.messages.How.{How}
use Rattle.nm_history.specs.Happens.{is_same}
use Rattle.nm_rndv.specs.Offers.{Offering, leaves}
use Rattle.nm_sending.specs.Letters.{Letter}
use Rattle.nm_sending.specs.Outboxes.{OutboxView}
use Rattle.nm_sending.specs.declared.departures.Departure.{Departure}

-- a message that was just sent
abbrev pub fresh : How → ℕ → Departure
fresh how len = record { how = how; len = len; out = false; recalled = false; undone = None }

-- what contracts see of a table: what became of each message, by destination and number, and by
-- destination for how many messages more there is room, and for how many recalls
pub record TableView : Type 0 where
  pub rows : List (List Departure)
  pub room : List ℕ
  pub spare : List ℕ

-- the messages of a row
abbrev pub row_of : List (List Departure) → ℕ → List Departure
row_of rows to = slice_index_or rows to []

-- no row is longer than this
abbrev pub IsMost : List (List Departure) → ℕ → Type 0
IsMost rows most = (to : ℕ) → length (row_of rows to) ≤ most

-- one message is replaced
abbrev pub with_departure : List (List Departure) → ℕ → ℕ → Departure → List (List Departure)
with_departure rows to n d = slice_set rows to (slice_set (row_of rows to) n d)

-- What contracts see of a rank's sending side: the packets to be sent; the messages that were asked for,
-- and the order in which they were cleared; what became of each message, by destination and number; by
-- destination how many pieces were pushed; and how many messages have not left.
pub record SendingView : Type 0 where
  pub outbox : OutboxView
  pub offers : Offering
  pub departures : List (List Departure)
  pub pushed : List ℕ
  pub staying : ℕ

-- the messages to a rank
abbrev pub departures_to : SendingView → ℕ → List Departure
departures_to v to = row_of v.departures to

-- message n to a rank
abbrev pub departure_of : SendingView → ℕ → ℕ → Option Departure
departure_of v to n = slice_get (departures_to v to) n

-- the message was sent, and passes
abbrev pub passes : (Departure → Bool) → Option Departure → Bool
passes test d = option_map_or test d false

-- the answer to the message's recall came back, and is this one
abbrev pub was_undone : Bool → Departure → Bool
was_undone done d = option_map_or (is_same done) d.undone false

-- how many pieces were pushed to a rank
abbrev pub pushed_to : SendingView → ℕ → ℕ
pushed_to v to = slice_index_or v.pushed to 0

-- the messages to a rank that it cleared, in the order of the clearances
abbrev pub cleared_to : SendingView → ℕ → List ℕ
cleared_to v to = map (λ m. m.1) (filter (λ m. m.0 == to) v.offers.order)

-- those of them of which pieces are left to push
abbrev pub leaving_to : SendingView → ℕ → List ℕ
leaving_to v to = filter (λ n. leaves v.offers.destinations (to, n)) (cleared_to v to)

-- the messages to a rank that leave with these letters
abbrev pub ends_to : ℕ → List Letter → List ℕ
ends_to to letters = filter_map (λ l. if l.to == to then l.ends else None) letters

-- the message that leaves with a letter, if one does
abbrev pub ended_by : Option Letter → Option (ℕ × ℕ)
ended_by letter = option_and_then (λ l. option_map (λ n. (l.to, n)) l.ends) letter

-- the send is complete: the message has left; or it was recalled, the answer is back, and the message
-- was withdrawn or has left
abbrev pub is_over : Departure → Bool
is_over d = if d.recalled then was_undone true d || (was_undone false d && d.out) else d.out

-- what the send ended with, if it is complete
abbrev pub ending_of : Departure → Option Answer
ending_of d = if is_over d then Some (if was_undone true d then answer.Cancelled else answer.Sent) else None
