-- The names that are taken.
use Rattle.std.specs.Prelude.{◌≡◌, ℕ, ◌+◌, ◌<◌, ◌≤◌, ◌^◌, ◌||◌, ◌&&◌, ◌==◌, Bool, true, false, List}
use Rattle.std.specs.Prelude.{not, nat_lt, get_or, length}
use Rattle.std.specs.List.{All, list_any}
use Rattle.indexmap.specs.IndexSet.{contains, spare}
use Rattle.nm_history.specs.Sends.{messages as messages_of, posts}
use Rattle.nm_match.specs.declared.deeds.Deed.{Deed}
use Rattle.nm_match.specs.declared.names.Message.{Message}
use Rattle.nm_match.specs.declared.seen.Seen.{Seen}
use Rattle.nm_match.specs.Deeds.{history_of, is_deed_of_message, is_deed_of_receive}
use Rattle.nm_match.specs.Names.{id_of_receive, same_message}

-- the next number of a group
abbrev pub next_of : Seen → ℕ → ℕ
next_of s group = get_or s.next.items group 0

-- a name is taken: it is below the next of its group, or stands apart
abbrev pub has_seen : Seen → Message → Bool
has_seen s id = nat_lt id.n (next_of s id.rank) || contains same_message s.apart id

-- a name is the next of its group, and not the last number that there is
abbrev pub is_next : Seen → Message → Bool
is_next s id = id.n == next_of s id.rank && not (next_of s id.rank == 18446744073709551615)

-- Each name that stands apart is above the next number of its group, or it is the last number that
-- there is. In one group it may be that next number.
abbrev pub AreEarlyBut : ℕ → Seen → Type 0
AreEarlyBut group s = (id : Message) → contains same_message s.apart id ≡ true →
    (next_of s id.rank ≤ id.n) × ((id.rank == group) ≡ false → is_next s id ≡ false)

-- The same in each group: names stand apart only before their time.
abbrev pub AreEarly : Seen → Type 0
AreEarly s = (id : Message) → contains same_message s.apart id ≡ true →
    (next_of s id.rank ≤ id.n) × (is_next s id ≡ false)

-- Memory holds names that came before their time, and a next number for each group.
abbrev pub AreFew : Seen → Type 0
AreFew s = AreEarly s × (length s.next.items ≤ 256)

-- there is room for a name: to count it, where it is next, or else to stand apart
abbrev pub HasRoom : Seen → Message → Type 0
HasRoom s id = (id.rank < length s.next.items) × (is_next s id ≡ false → 0 < spare s.apart)

-- The names of these deeds are taken, and no others, and memory holds few. Receives are one group. Numbers
-- are below 2^64, and ranks below 2^8; so the order number of the next message that waits, which counts
-- some of them, is below 2^73, and that of a new receive, which counts some of those before it, below 2^64.
pub record AreNames (deeds : List Deed) (order next : ℕ) (r m : Seen) : Type 0 where
  pub receives :
      (number : ℕ) → has_seen r (id_of_receive number) ≡ list_any (is_deed_of_receive number) deeds
  pub messages :
      (from n : ℕ) → has_seen m (record { rank = from; n = n })
      ≡ list_any (is_deed_of_message from n) deeds
  pub ordered : order ≤ length (posts (history_of deeds))
  pub counted : next ≤ length (posts (history_of deeds)) + length (messages_of (history_of deeds))
  pub one_group : (id : Message) → has_seen r id ≡ true → id.rank ≡ 0
  pub few_receives : AreFew r
  pub few_messages : AreFew m
  pub small_receives : All (λ p. p.number < 2 ^ 64) (posts (history_of deeds))
  pub small_messages :
      All (λ a. (a.env.from < 2 ^ 8) × (a.n < 2 ^ 64)) (messages_of (history_of deeds))
