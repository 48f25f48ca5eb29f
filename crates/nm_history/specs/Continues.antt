-- Which packets continue their stream.
use Rattle.std.specs.Prelude.{◌≡◌, ℕ, ◌+◌, ◌-◌, ◌==◌, Bool, true, false, not, ◌&&◌, nat_lt, nat_le, min}
use Rattle.std.specs.Prelude.{if◌then◌else◌, List, [], ◌∷◌, length}
use Rattle.std.specs.List.{list_any}
use Rattle.nm_types.specs.declared.limits.TheConstants.{MAX_PAYLOAD, MAX_BODY, MAX_TAG, MAX_STAMP}
use Rattle.nm_types.specs.declared.packets.Packet.{Packet}
use Rattle.nm_types.specs.declared.packets.What.{What}
use Rattle.nm_types.specs.declared.packets.What.TheVariants.{Head, More, Ask, Clear}
use Rattle.nm_types.specs.declared.packets.What.TheVariants.{Withdraw, Withdrawn}
use Rattle.nm_history.specs.declared.events.Event.{Event}
use Rattle.nm_history.specs.Sends.{sends}
use Rattle.nm_history.specs.Happens.{happened, is_recall}
use Rattle.nm_history.specs.Delivery.{is_asked}
use Rattle.nm_history.specs.Known.{Known}

-- From this stamp on a packet is a stray, so that the events that a packet makes have stamps within
-- the limit.
abbrev pub WORN_STAMP : ℕ
WORN_STAMP = MAX_STAMP - 15

-- these numbers have that one among them
abbrev pub has : List ℕ → ℕ → Bool
has numbers n = list_any (λ m. m == n) numbers

-- the packet is of its sender's own messages, and answers none of the receiver's
abbrev pub is_of_stream : What → Bool
is_of_stream (Clear n) = false
is_of_stream (Withdrawn n done) = false
is_of_stream _ = true

-- A packet of its sender's own messages continues: a new message begins and a message is withdrawn
-- only where no eager message is unfinished, and the next part of an eager message carries as many
-- bytes as a packet can.
abbrev pub continues_stream : ℕ → Known → What → ℕ → Bool
continues_stream eager known (Head tag ctx len) size =
    known.missing == 0 && nat_le len eager && nat_le tag MAX_TAG && size == min MAX_PAYLOAD len
continues_stream eager known (More n) size =
    nat_lt 0 known.missing && n + 1 == known.count && size == min MAX_PAYLOAD known.missing
continues_stream eager known (Ask tag ctx len) size =
    known.missing == 0 && nat_le len MAX_BODY && nat_le tag MAX_TAG && size == 0
continues_stream eager known (Withdraw n) size =
    known.missing == 0 && nat_lt n known.count && not (has known.withdrawn n) && size == 0
continues_stream eager known _ size = false

-- An answer of this rank continues: it answers a message that was sent to it by asking, or a recall
-- that has no answer yet.
abbrev pub continues_answer : Known → List Event → ℕ → What → ℕ → Bool
continues_answer known h from (Clear n) size =
    is_asked (sends h from) n && not (has known.cleared n) && not (has known.undone n) && size == 0
continues_answer known h from (Withdrawn n done) size =
    happened (is_recall from n) h && not (has known.answered n)
    && not (done && has known.cleared n) && size == 0
continues_answer known h from _ size = false

-- the packet continues its stream at a rank with this history
abbrev pub continues : ℕ → Known → List Event → Packet → Bool
continues eager known h p =
    nat_lt p.stamp WORN_STAMP
    && (if is_of_stream p.what
    then continues_stream eager known p.what (length p.payload)
    else continues_answer known h p.from p.what (length p.payload))

-- no number is twice among these
abbrev pub AreApart : List ℕ → Type 0
AreApart [] = Unit {0}
AreApart (n ∷ ns) = (has ns n ≡ false) × AreApart ns
