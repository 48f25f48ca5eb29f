-- What contracts see of what a rank knows of another, and what must be asked of its own history.
use Rattle.std.specs.Prelude.{◌≡◌, ℕ, ◌<◌, ◌==◌, ◌/◌, ◌%◌, ◌&&◌, ◌||◌, Bool, true, false, not, is_some, nat_eq}
use Rattle.std.specs.Prelude.{nat_lt, List}
use Rattle.std.specs.Int.{bit_at}
use Rattle.std.specs.Map.{lookup}
use Rattle.std.specs.Option.{option_map_or}
use Rattle.nm_types.specs.declared.messages.How.TheVariants as how
use Rattle.nm_types.specs.declared.packets.Packet.{Packet}
use Rattle.nm_types.specs.declared.packets.What.{What}
use Rattle.nm_types.specs.declared.packets.What.TheVariants.{Ask, Clear}
use Rattle.nm_types.specs.declared.packets.What.TheVariants.{Withdraw, Withdrawn}
use Rattle.nm_history.specs.declared.events.Event.{Event}
use Rattle.nm_history.specs.Delivery.{is_asked}
use Rattle.nm_history.specs.Happens.{happened, is_recall}
use Rattle.nm_history.specs.Matching.{first_receive, is_free_message, matched_pairs}
use Rattle.nm_history.specs.Sends.{sends}
use Rattle.nm_history.specs.Continues.{continues, has}
use Rattle.nm_history.specs.Effects.{is_empty_send}
use Rattle.nm_history.specs.Known.{Known}

-- numbers of messages, and the room for more
pub record Noted : Type 0 where
  pub numbers : List ℕ
  pub spare : ℕ

-- numbers by blocks of 64: of a block the bits of those that stand there; and for how many blocks more there is room
pub record Blocks : Type 0 where
  pub blocks : List (ℕ × ℕ)
  pub spare : ℕ

-- the bits of a block
abbrev pub bits_in : List (ℕ × ℕ) → ℕ → ℕ
bits_in blocks block = option_map_or (λ bits. bits) (lookup (nat_eq block) blocks) 0

-- a number stands in its block
abbrev pub stands : List (ℕ × ℕ) → ℕ → Bool
stands blocks n = bit_at (bits_in blocks (n / 64)) (n % 64) == 1

-- a number is below the next one, or stands apart
abbrev pub counts : ℕ → List (ℕ × ℕ) → ℕ → Bool
counts next apart n = nat_lt n next || stands apart n

-- these numbers are those that are below the next one, or stand apart
abbrev pub IsCounted : List ℕ → ℕ → List (ℕ × ℕ) → Type 0
IsCounted numbers next apart = (n : ℕ) → has numbers n ≡ counts next apart n

-- the room for more in each list of what is known that is in memory
pub record Room : Type 0 where
  pub withdrawn : ℕ
  pub cleared : ℕ

-- what the packets of a rank told, and the room for more
pub record Told : Type 0 where
  pub known : Known
  pub room : Room

-- there is room for what the packet tells
abbrev pub HasRoom : Room → What → Type 0
HasRoom room (Clear n) = 0 < room.cleared
HasRoom room (Withdraw n) = 0 < room.withdrawn
HasRoom room _ = Unit {0}

-- the packet continues its stream: by this eager limit, at a rank with this history
pub record IsContinued (known : Known) (p : Packet) : Type 0 where
  pub eager : ℕ
  pub history : List Event
  pub continued : continues eager known history p ≡ true

-- A rank with this history awaits the packet, where this is known of its sender: it clears a message that was
-- sent by asking, and was neither cleared nor withdrawn, or answers a recall that has no answer (MPI 3.1, 3.8.4).
-- No packet of its sender's own messages is awaited.
abbrev pub is_awaited : Known → List Event → ℕ → What → Bool
is_awaited known h from (Clear n) =
    is_asked (sends h from) n && not (has known.cleared n) && not (has known.undone n)
is_awaited known h from (Withdrawn n done) = happened (is_recall from n) h && not (has known.answered n)
is_awaited known h from _ = false

-- What the packet asks of the rank with this history is done at once: an open receive takes the
-- announced message, the cleared one has an empty body, the one to be withdrawn is free. No other
-- packet asks for anything.
abbrev pub is_done_at_once : List Event → ℕ → What → Bool
is_done_at_once h from (Ask tag ctx len) =
    is_some
    (first_receive h (matched_pairs h)
    (record { from = from; tag = tag; ctx = ctx; len = len; how = how.Ask }))
is_done_at_once h from (Clear n) = is_empty_send h from n
is_done_at_once h from (Withdraw n) = is_free_message h (matched_pairs h) from n
is_done_at_once h from _ = false
