-- What the packets of a stream announce and complete, and which answers clash.
use Rattle.std.specs.Prelude.{◌≡◌, ℕ, ◌<◌, ◌≤◌, ◌==◌, ◌&&◌, Bool, true, false, not, if◌then◌else◌, Option, Some, None}
use Rattle.std.specs.Prelude.{List, [], ◌∷◌, length, map, filter, filter_map, nat_lt}
use Rattle.std.specs.List.{AllByRecursion, AllZip, cons_option, list_any}
use Rattle.std.specs.Bool.{OnTrue}
use Rattle.nm_types.specs.declared.messages.How.TheVariants as how
use Rattle.nm_types.specs.declared.messages.Envelope.{Envelope}
use Rattle.nm_types.specs.declared.packets.What.{What}
use Rattle.nm_types.specs.declared.packets.What.TheVariants.{Head, More, Ask, Clear, Withdrawn}
use Rattle.nm_history.specs.declared.events.Event.{Event}
use Rattle.nm_history.specs.declared.events.Happened.{Happened}
use Rattle.nm_history.specs.declared.events.Happened.TheVariants.{Send, Recall}
use Rattle.nm_history.specs.declared.plain.Pair.{Pair}
use Rattle.nm_history.specs.Sends.{Sent, sends, is_ask, envelope}
use Rattle.nm_history.specs.Happens.{happened, is_recall, is_withdraw}
use Rattle.nm_history.specs.Matching.{matched_pairs, new_pair, is_of_message}
use Rattle.nm_history.specs.Known.{Known, Taken, known_after}
use Rattle.nm_history.specs.Continues.{WORN_STAMP, is_of_stream, continues_stream}
use Rattle.nm_channels.specs.Sound.{IsSendable}

-- a message that was announced: the stamp of its packet, and its envelope
pub record Announced : Type 0 where
  pub stamp : ℕ
  pub env : Envelope

-- the message that a packet of this rank announces
abbrev pub announced_as : ℕ → ℕ → What → Option Announced
announced_as from stamp (Head tag ctx len) =
    Some (record { stamp = stamp; env = record { from = from; tag = tag; ctx = ctx; len = len; how = how.Eager } })
announced_as from stamp (Ask tag ctx len) =
    Some (record { stamp = stamp; env = record { from = from; tag = tag; ctx = ctx; len = len; how = how.Ask } })
announced_as from stamp _ = None

-- the message that a packet announces, if it continued its stream
abbrev pub announced_by : Taken → Option Announced
announced_by t = if t.continued then announced_as t.packet.from t.packet.stamp t.packet.what else None

-- the messages that packets announce
abbrev pub announced : List Taken → List Announced
announced packets = filter_map announced_by packets

-- of the packets of a rank's own messages those continued that continue by the packets before
abbrev pub StreamIsRight : ℕ → Known → List Taken → Type 0
StreamIsRight eager known [] = Unit {0}
StreamIsRight eager known (t ∷ packets) =
    OnTrue (is_of_stream t.packet.what && nat_lt t.packet.stamp WORN_STAMP)
    (t.continued ≡ continues_stream eager known t.packet.what (length t.packet.payload))
    × StreamIsRight eager (known_after known t) packets

-- the eager message that a packet completes, if it continues
abbrev pub completes : Known → What → ℕ → Option ℕ
completes known (Head tag ctx len) size = if len == size then Some known.count else None
completes known (More n) size = if known.missing == size then Some n else None
completes known _ size = None

-- the eager messages that packets complete, after others by which this is known
abbrev pub completed : Known → List Taken → List ℕ
completed known [] = []
completed known (t ∷ packets) =
    cons_option (if t.continued then completes known t.packet.what (length t.packet.payload) else None)
    (completed (known_after known t) packets)

-- an announced message is that of a send, and its packet has no smaller stamp
abbrev pub Announces : ℕ → Sent → Announced → Type 0
Announces from s m = (m.env ≡ envelope from s) × (s.stamp ≤ m.stamp)

-- a packet of its sender's own messages continued
abbrev pub StreamContinued : Taken → Type 0
StreamContinued t = OnTrue (is_of_stream t.packet.what) (t.continued ≡ true)

-- the answer to a recall continued
abbrev pub UndoneContinued : Taken → Type 0
UndoneContinued t = (n : ℕ) (done : Bool) → t.packet.what ≡ Withdrawn n done → t.continued ≡ true

-- the packets of the sender's own messages all continued, announce these sends, one by one, and
-- complete the messages with these numbers
abbrev pub StreamGoes : ℕ → List Sent → List ℕ → Known → List Taken → Type 0
StreamGoes from ss numbers known packets =
    AllByRecursion StreamContinued packets × AllZip (Announces from) ss (announced packets)
    × (completed known packets ≡ numbers)

-- the numbers of the eager messages of these sends
abbrev pub eager_numbers : List Sent → List ℕ
eager_numbers ss = map (λ s. s.n) (filter (λ s. not (is_ask s.how)) ss)

-- a sender's event is in order: a send is in range and has the next number, and a recall is the
-- first of a message that was sent
abbrev pub SenderAt : ℕ → (Sent → List ℕ) → List Event → ℕ → Happened → Type 0
SenderAt eager bodies before stamp (Send to n tag ctx len how line) =
    (n ≡ length (sends before to))
    × IsSendable eager bodies
    (record { stamp = stamp; to = to; n = n; tag = tag; ctx = ctx; len = len; how = how; line = line })
SenderAt eager bodies before stamp (Recall to n) =
    (n < length (sends before to)) × (happened (is_recall to n) before ≡ false)
SenderAt eager bodies before stamp _ = Unit {0}

-- the message that a packet clears
abbrev pub cleared_by : What → Option ℕ
cleared_by (Clear n) = Some n
cleared_by _ = None

-- the message that a packet clears, if it continued its stream
abbrev pub clear_of : Taken → Option ℕ
clear_of t = if t.continued then cleared_by t.packet.what else None

-- an answer can't come after another one: a message is cleared once, a recall is answered once, and
-- a message that was withdrawn is not cleared
abbrev pub clashes : What → What → Bool
clashes (Clear n) (Clear m) = n == m
clashes (Clear n) (Withdrawn m done) = n == m && done
clashes (Withdrawn n done) (Clear m) = n == m && done
clashes (Withdrawn n done) (Withdrawn m done') = n == m
clashes _ _ = false

-- no packet clashes with one before it
abbrev pub NoClash : List What → List What → Type 0
NoClash seen [] = Unit {0}
NoClash seen (w ∷ ws) = AllByRecursion (λ v. clashes v w ≡ false) seen × NoClash (w ∷ seen) ws

-- a pair that an event makes is of a message that is in no pair and was not withdrawn
abbrev pub FreshAt : List Event → Happened → Type 0
FreshAt before w =
    (pair : Pair) → new_pair before (matched_pairs before) w ≡ Some pair →
    (list_any (is_of_message pair.arrival.env.from pair.arrival.n) (matched_pairs before) ≡ false)
    × (happened (is_withdraw pair.arrival.env.from pair.arrival.n true) before ≡ false)
