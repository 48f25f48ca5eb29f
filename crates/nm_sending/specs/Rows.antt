-- What memory holds of the messages to one rank. Of each it is known what became of it, for tests and results
-- of its send (MPI 3.1, 3.7.3) and for a recall of it (3.8.4).
use Rattle.std.specs.Prelude.{◌≡◌, ℕ, ◌+◌, ◌<◌, ◌^◌, ◌&&◌, ◌||◌, Bool, true, not, Option}
use Rattle.std.specs.Prelude.{List, [], ◌∷◌, length, is_some, nat_eq, option_and_then}
use Rattle.std.specs.List.{prefix_len}
use Rattle.std.specs.Map.{lookup}
use Rattle.nm_types.specs.declared.messages.How.TheVariants.{Eager}
use Rattle.nm_history.specs.Sends.{is_ask}
use Rattle.nm_kept.specs.Keeping.{Keeping}
use Rattle.nm_sending.specs.declared.departures.Departure.{Departure}
use Rattle.nm_sending.specs.Departures.{was_undone}

-- what contracts see of a row: what became of each message, for how many messages more there is room, and
-- for how many recalls
pub record RowView : Type 0 where
  pub items : List Departure
  pub room : ℕ
  pub spare : ℕ

-- what contracts see of the recalls to one rank: each with its answer, if it came back, by the message's number,
-- each new one behind the others; and for how many recalls more there is room
pub record RecallsView : Type 0 where
  pub entries : List (ℕ × Option Bool)
  pub spare : ℕ

-- the message was recalled and withdrawn
abbrev pub is_withdrawn : Departure → Bool
is_withdrawn d = d.recalled && was_undone true d

-- it has left, or never will: one that was sent by asking and was withdrawn
abbrev pub is_settled : Departure → Bool
is_settled d = d.out || (is_ask d.how && is_withdrawn d)

-- it has not left, and may leave
abbrev pub stays : Departure → Bool
stays d = not (is_settled d)

-- how many messages at the front are settled
abbrev pub gone : List Departure → ℕ
gone ds = prefix_len is_settled ds

-- a message with its recall, if it was recalled, and with the answer to that, if it came back
abbrev pub with_recalled : Departure → Option (Option Bool) → Departure
with_recalled d recall =
    record d { recalled = is_some recall; undone = option_and_then (λ answer. answer) recall }

-- the messages from this number on, each with its recall
abbrev pub all_recalled : List (ℕ × Option Bool) → ℕ → List Departure → List Departure
all_recalled recalls n [] = []
all_recalled recalls n (d ∷ ds) =
    with_recalled d (lookup (nat_eq n) recalls) ∷ all_recalled recalls (n + 1) ds

-- what became of a message, whatever its way and its length are, and whether one that was withdrawn has left
abbrev pub fate : Departure → Departure
fate d = record d { how = Eager; len = 0; out = d.out || is_withdrawn d }

-- What a row keeps: memory holds the messages from the first on that may still leave, and all recalls.
pub record RowKeeps (sent : Keeping Departure) (recalls : List (ℕ × Option Bool)) : Type 0 where
  pub first : sent.forgotten ≡ gone (all_recalled recalls 0 sent.items)
  pub few : length sent.items < 2 ^ 64
  pub known : (n : ℕ) → is_some (lookup (nat_eq n) recalls) ≡ true → n < length sent.items
