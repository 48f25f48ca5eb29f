-- Receives and messages whose numbers came before their time.
use Rattle.std.specs.Prelude.{ℕ, Bool, ◌||◌, not, nat_le, List, filter}
use Rattle.std.specs.List.{list_any, range_with_len}
use Rattle.nm_types.specs.declared.messages.Arrival.{Arrival}
use Rattle.nm_history.specs.declared.events.Event.{Event}
use Rattle.nm_history.specs.Sends.{messages, receives}
use Rattle.nm_match.specs.Deeds.{is_known_message, is_known_receive}

-- a number came before one that is below it, or it is the last number that there is
abbrev pub is_early : (ℕ → Bool) → ℕ → Bool
is_early known n =
    list_any (λ k. not (known k)) (range_with_len 0 n) || nat_le 18446744073709551615 n

-- the numbers of the receives that came before their time
unfoldable pub early_receives : List Event → List ℕ
early_receives h = filter (λ n. is_early (λ k. is_known_receive h k) n) (receives h)

-- the messages that came before their time, by the numbers of their sender
unfoldable pub early_messages : List Event → List Arrival
early_messages h =
    filter (λ a. is_early (λ k. is_known_message h a.env.from k) a.n) (messages h)
