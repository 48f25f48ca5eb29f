-- The messages of one sender's packets, and which packets continue them. MPI 3.1, section 3.5
-- (messages of one sender don't overtake).
use Rattle.std.specs.Prelude.{◌≡◌, ℕ, ◌+◌, ◌-◌, ◌==◌, ◌<◌, ◌≤◌, Bool, true, false, not, ◌&&◌}
use Rattle.std.specs.Prelude.{if◌then◌else◌, IsTrue, Option, Some, None}
use Rattle.std.specs.Prelude.{IsSomeAnd, List, [], ◌∷◌, ◌++◌, length, map, filter, find, fold}
use Rattle.std.specs.Prelude.{sum_by, take_while, ◌⊎◌}
use Rattle.std.specs.Bool.{OnTrue}
use Rattle.std.specs.List.{cons_option, flat_map, AllByRecursion}
use Rattle.nm_types.specs.declared.messages.How.TheVariants as how
use Rattle.nm_types.specs.declared.messages.Envelope.{Envelope}
use Rattle.nm_types.specs.declared.packets.Joined.{Joined}
use Rattle.nm_types.specs.declared.packets.Joined.TheVariants as joined
use Rattle.nm_types.specs.declared.packets.Packet.{Packet}
use Rattle.nm_types.specs.declared.packets.What.{What}
use Rattle.nm_types.specs.declared.packets.What.TheVariants.{Head, More, Ask}
use Rattle.nm_history.specs.Continues.{continues_stream}
use Rattle.nm_history.specs.Known.{nothing_known}
use Rattle.nm_history.specs.Sends.{is_ask}

-- a message of a list of packets: its envelope, and its bytes so far
pub record Grouped : Type 0 where
  pub env : Envelope
  pub bytes : List ℕ

-- the packet begins a message, announces one, or goes on with one
abbrev pub is_kept : What → Bool
is_kept (Head tag ctx len) = true
is_kept (More n) = true
is_kept (Ask tag ctx len) = true
is_kept _ = false

-- the packet belongs to an eager message
abbrev pub is_eager : What → Bool
is_eager (Head tag ctx len) = true
is_eager (More n) = true
is_eager _ = false

-- the packet goes on with a message
abbrev pub goes_on : What → Bool
goes_on (More n) = true
goes_on _ = false

-- the bytes of the packets at the front that go on with the message before them
abbrev pub bytes_ahead : List Packet → List ℕ
bytes_ahead packets = flat_map (λ p. p.payload) (take_while (λ p. goes_on p.what) packets)

-- the message that a packet of this rank begins, where it has these bytes so far
abbrev pub grouped_as : ℕ → What → List ℕ → Option Grouped
grouped_as from (Head tag ctx len) bytes =
    Some (record {
      env = record { from = from; tag = tag; ctx = ctx; len = len; how = how.Eager };
      bytes = bytes;
    })
grouped_as from (Ask tag ctx len) bytes =
    Some (record {
      env = record { from = from; tag = tag; ctx = ctx; len = len; how = how.Ask };
      bytes = [];
    })
grouped_as from _ bytes = None

-- each packet that begins a message, with those that go on with it directly behind
abbrev pub groups : List Packet → List Grouped
groups [] = []
groups (p ∷ packets) =
    cons_option (grouped_as p.from p.what (p.payload ++ bytes_ahead packets)) (groups packets)

-- the messages of one sender's packets, in order: message n is the one at place n
abbrev pub messages : List Packet → List Grouped
messages packets = groups (filter (λ p. is_kept p.what) packets)

-- an eager message that comes in: its number, its length, and its bytes so far
pub record Incoming : Type 0 where
  pub n : ℕ
  pub len : ℕ
  pub bytes : List ℕ

-- what came from one sender: how many messages were counted, and the eager ones among them that
-- weren't taken, oldest first
pub record Stream : Type 0 where
  pub count : ℕ
  pub messages : List Incoming

-- the stream where nothing came
abbrev pub nothing_came : Stream
nothing_came = record { count = 0; messages = [] }

-- how many bytes of a message are still to come
abbrev pub lacking : Incoming → ℕ
lacking m = m.len - length m.bytes

-- how many bytes of eager messages are still to come: 0 exactly where none is unfinished
abbrev pub missing : Stream → ℕ
missing stream = sum_by lacking stream.messages

-- the stream with one message more, which has these bytes so far
abbrev pub begun : Stream → ℕ → List ℕ → Stream
begun stream len bytes = record {
  count = stream.count + 1;
  messages = stream.messages ++ record { n = stream.count; len = len; bytes = bytes } ∷ [];
}

-- the message, with these bytes behind its own if it is message n
abbrev pub with_more : ℕ → List ℕ → Incoming → Incoming
with_more n bytes m = if m.n == n then record m { bytes = m.bytes ++ bytes } else m

-- the stream with these bytes behind those of message n
abbrev pub carried_on : Stream → ℕ → List ℕ → Stream
carried_on stream n bytes = record stream { messages = map (with_more n bytes) stream.messages }

-- the stream with one message counted that was sent by asking
abbrev pub skipped : Stream → Stream
skipped stream = record stream { count = stream.count + 1 }

-- the stream after one packet more with these bytes
abbrev pub after : Stream → What → List ℕ → Stream
after stream (Head tag ctx len) bytes = begun stream len bytes
after stream (More n) bytes = carried_on stream n bytes
after stream (Ask tag ctx len) bytes = skipped stream
after stream _ bytes = stream

-- the stream after these packets more
abbrev pub after_all : Stream → List Packet → Stream
after_all stream packets = fold (λ so_far p. after so_far p.what p.payload) stream packets

-- The packet continues a stream of so many messages, of which so many bytes are missing, as the
-- protocol has it. Its payload has this size.
abbrev pub continues : ℕ → ℕ → ℕ → What → ℕ → Bool
continues eager count missing what size =
    is_kept what
    && continues_stream eager (record nothing_known { count = count; missing = missing }) what size

-- each of these packets that begins, announces or goes on with a message continues the stream
abbrev pub AllContinue : ℕ → Stream → List Packet → Type 0
AllContinue eager stream [] = Unit {0}
AllContinue eager stream (p ∷ packets) =
    OnTrue (is_kept p.what)
    (IsTrue (continues eager stream.count (missing stream) p.what (length p.payload)))
    × AllContinue eager (after stream p.what p.payload) packets

-- the eager messages among these, where the first of them has this number
abbrev pub eager_from : ℕ → List Grouped → List Incoming
eager_from n [] = []
eager_from n (m ∷ groups) =
    if is_ask m.env.how
    then eager_from (n + 1) groups
    else record { n = n; len = m.env.len; bytes = m.bytes } ∷ eager_from (n + 1) groups

-- the stream in which these messages came, and none was taken
abbrev pub stream_of : List Grouped → Stream
stream_of groups = record { count = length groups; messages = eager_from 0 groups }

-- the messages' numbers rise, from this number on and up to below that one
abbrev pub AreNumbered : ℕ → ℕ → List Incoming → Type 0
AreNumbered low high [] = low ≤ high
AreNumbered low high (m ∷ messages) = (low ≤ m.n) × AreNumbered (m.n + 1) high messages

-- the message is whole, or it is the last one counted and lacks bytes
abbrev pub IsWholeOrLast : ℕ → Incoming → Type 0
IsWholeOrLast count m = (length m.bytes ≡ m.len) ⊎ ((length m.bytes < m.len) × (m.n + 1 ≡ count))

-- what every stream keeps: the numbers rise below the count, and only the last one counted may be
-- unfinished
pub record IsStream (stream : Stream) : Type 0 where
  pub numbered : AreNumbered 0 stream.count stream.messages
  pub finished : AllByRecursion (IsWholeOrLast stream.count) stream.messages

-- message n, if it wasn't taken
abbrev pub message_of : Stream → ℕ → Option Incoming
message_of stream n = find (λ m. m.n == n) stream.messages

-- message n is whole and wasn't taken
abbrev pub IsWholeIn : Stream → ℕ → Type 0
IsWholeIn stream n = IsSomeAnd (message_of stream n) (λ m. length m.bytes ≡ m.len)

-- the stream without message n
abbrev pub without : Stream → ℕ → Stream
without stream n = record stream { messages = filter (λ m. not (m.n == n)) stream.messages }

-- how many messages were counted since the first of these, where this many were counted
abbrev pub since : ℕ → List Incoming → ℕ
since count [] = 0
since count (m ∷ messages) = count - m.n

-- how many messages were counted since the first one that wasn't taken; 0 where all were taken
abbrev pub since_first : Stream → ℕ
since_first stream = since stream.count stream.messages

-- what a packet did to its message, if so many bytes are missing now
abbrev pub joined_by : What → ℕ → Joined
joined_by (Head tag ctx len) missing = if missing == 0 then joined.Whole else joined.Begun
joined_by _ missing = if missing == 0 then joined.Whole else joined.More
