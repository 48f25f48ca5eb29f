-- Messages that their receiver has cleared to be sent, and what came of them.
-- MPI 3.1, 3.4 (synchronous mode) and 3.7.3 (completion of a receive).
use Rattle.std.specs.Prelude.{◌≡◌, ℕ, ◌-◌, ◌<◌, ◌==◌, Bool, false, nat_eq, nat_lt, length}
use Rattle.std.specs.Prelude.{if◌then◌else◌, List, [], ◌++◌, count_by, find, slice_index_or}
use Rattle.std.specs.Prelude.{Option, Some, None, All, map}
use Rattle.std.specs.Option.{is_some, option_map, option_map_or}
use Rattle.std.specs.Map.{lookup, set_value}
use Rattle.nm_types.specs.declared.packets.Piece.{Piece}
use Rattle.nm_types.specs.declared.packets.Joined.{Joined}
use Rattle.nm_types.specs.declared.packets.Joined.TheVariants as joined
use Rattle.nm_rndv.specs.Pieces.{piece_size}

-- a message that was granted: its length, and the bytes that came of it, or `None` once these were
-- taken
pub record Granted : Type 0 where
  pub len : ℕ
  pub bytes : Option (List ℕ)

-- the grants of one sender in order, each by its message's number, and the room for more
pub record FromSender : Type 0 where
  pub grants : List (ℕ × Granted)
  pub spare : ℕ

-- for each sender its grants in order, each by its message's number, and the room for more
pub record Granting : Type 0 where
  pub grants : List (List (ℕ × Granted))
  pub spare : List ℕ

-- all senders, as they are seen together
abbrev pub seen : List FromSender → Granting
seen senders =
    record { grants = map (λ s. s.grants) senders; spare = map (λ s. s.spare) senders }

-- a grant of which nothing came yet
abbrev pub fresh : ℕ → Granted
fresh len = record { len = len; bytes = Some [] }

-- how many bytes of it came and were not taken
abbrev pub came : Granted → ℕ
came g = option_map_or length g.bytes 0

-- how many bytes of it are still to come
abbrev pub due_of : Granted → ℕ
due_of g = g.len - came g

-- the bytes that came of it were not taken
abbrev pub has_bytes : Granted → Bool
has_bytes g = is_some g.bytes

-- the message is not whole
abbrev pub is_open : Granted → Bool
is_open g = option_map_or (λ bytes. nat_lt (length bytes) g.len) g.bytes false

-- the message is whole and not taken
abbrev pub is_whole : Granted → Bool
is_whole g = option_map_or (λ bytes. length bytes == g.len) g.bytes false

-- the grant with more bytes
abbrev pub with_more : Granted → List ℕ → Granted
with_more g more = record { len = g.len; bytes = option_map (λ bytes. bytes ++ more) g.bytes }

-- the grant after its bytes were taken
abbrev pub without_bytes : Granted → Granted
without_bytes g = record { len = g.len; bytes = None }

-- the entry is of a message that is not whole
abbrev pub is_unfinished : ℕ × Granted → Bool
is_unfinished e = is_open e.1

-- the first unfinished grant, with its message's number
abbrev pub first_unfinished : List (ℕ × Granted) → Option (ℕ × Granted)
first_unfinished grants = find is_unfinished grants

-- a grant of the sender is unfinished
abbrev pub has_unfinished : List (ℕ × Granted) → Bool
has_unfinished grants = is_some (first_unfinished grants)

-- how many senders have an unfinished grant
abbrev pub count_unfinished : List (List (ℕ × Granted)) → ℕ
count_unfinished rows = count_by has_unfinished rows

-- the grant of message n
abbrev pub grant_in : List (ℕ × Granted) → ℕ → Option Granted
grant_in grants n = lookup (nat_eq n) grants

-- the grants with this one in the place of that of message n
abbrev pub with_grant : List (ℕ × Granted) → ℕ → Granted → List (ℕ × Granted)
with_grant grants n g = set_value (nat_eq n) grants g

-- message and offset that the next piece must have
abbrev pub expected_in : List (ℕ × Granted) → Option (ℕ × ℕ)
expected_in grants = option_map (λ e. (e.0, came e.1)) (first_unfinished grants)

-- how many bytes the first unfinished grant still lacks
abbrev pub due_in : List (ℕ × Granted) → ℕ
due_in grants = option_map_or (λ e. due_of e.1) (first_unfinished grants) 0

-- the grants after a piece of message n with these bytes
abbrev pub with_piece : List (ℕ × Granted) → ℕ → List ℕ → List (ℕ × Granted)
with_piece grants n bytes =
    option_map_or (λ g. with_grant grants n (with_more g bytes)) (grant_in grants n) grants

-- the grants after the bytes of message n were taken
abbrev pub taken_in : List (ℕ × Granted) → ℕ → List (ℕ × Granted)
taken_in grants n =
    option_map_or (λ g. with_grant grants n (without_bytes g)) (grant_in grants n) grants

-- what a piece at this offset did: so many bytes were due before it, and it has so many
abbrev pub joined_by : ℕ → ℕ → ℕ → Joined
joined_by due at size =
    if size == due then joined.Whole else (if at == 0 then joined.Begun else joined.More)

-- the grants of a sender
abbrev pub grants_from : Granting → ℕ → List (ℕ × Granted)
grants_from v from = slice_index_or v.grants from []

-- every grant of a sender is whole
abbrev pub AllWhole : List (ℕ × Granted) → Type 0
AllWhole grants = All (λ e. is_open e.1 ≡ false) grants

-- message n was granted and is not whole
abbrev pub is_open_in : List (ℕ × Granted) → ℕ → Bool
is_open_in grants n = option_map_or is_open (grant_in grants n) false

-- message n is whole and was not taken
abbrev pub is_whole_in : List (ℕ × Granted) → ℕ → Bool
is_whole_in grants n = option_map_or is_whole (grant_in grants n) false

-- there is room for a grant more of whichever sender
abbrev pub IsReady : Granting → Type 0
IsReady v = All (λ spare. 0 < spare) v.spare

-- there is room for a grant more of this sender
abbrev pub IsReadyFor : Granting → ℕ → Type 0
IsReadyFor v from = 0 < slice_index_or v.spare from 0

-- the piece is the one that its sender has to send next
pub record Continues (v : Granting) (p : Piece) : Type 0 where
  pub expected : expected_in (grants_from v p.from) ≡ Some (p.n, p.at)
  pub size : length p.bytes ≡ piece_size (due_in (grants_from v p.from))
