-- What each call does to a rank.
use Rattle.std.specs.Prelude.{◌≡◌, ℕ, ◌+◌, Bool, false, if◌then◌else◌, max, min, Option, Some, None}
use Rattle.std.specs.Prelude.{List, [], ◌∷◌, ◌++◌, length, slice_get, slice_set}
use Rattle.std.specs.Option.{option_map_or}
use Rattle.nm_types.specs.declared.messages.Arrival.{Arrival}
use Rattle.nm_types.specs.declared.messages.How.TheVariants.{Eager}
use Rattle.nm_types.specs.declared.packets.Packet.{Packet}
use Rattle.nm_types.specs.declared.packets.Piece.{Piece}
use Rattle.nm_types.specs.declared.packets.What.{What}
use Rattle.nm_types.specs.declared.packets.What.TheVariants as what
use Rattle.nm_history.specs.declared.events.Event.{Event}
use Rattle.nm_history.specs.declared.events.Happened.{Happened}
use Rattle.nm_history.specs.declared.events.Happened.TheVariants.{Send}
use Rattle.nm_history.specs.AtEach.{in_turn_after}
use Rattle.nm_history.specs.Outgoing.{Called, packets_by}
use Rattle.nm_history.specs.Sends.{Sent, is_ask}
use Rattle.nm_history.specs.Bytes.{pulled_bytes, taken_bytes}
use Rattle.nm_history.specs.Clock.{stamped}
use Rattle.nm_history.specs.Continues.{continues}
use Rattle.nm_history.specs.Effects.{taken_events}
use Rattle.nm_history.specs.Known.{Taken, known_after}
use Rattle.nm_history.specs.Pieces.{Due, due_pieces, is_due, piece_makes}
use Rattle.nm_request.specs.declared.Req.{Req}
use Rattle.nm_request.specs.declared.Kind.{Kind}
use Rattle.nm_request.specs.Requests.{AddsRequest}
use Rattle.nm_rndv.specs.Offers.{Offering, destined, with_answer, with_clearance, with_destined}
use Rattle.nm_sending.specs.Sent.{Puts, only_to}
use Rattle.nm_receiving.specs.Receipts.{AddsBytes, SameBytes, drawn_from, of_asked, of_eager}
use Rattle.nm_rank.specs.Ranks.{RankView, known_from, count_of}

-- the packets to a rank that these events call for, after those before them
abbrev pub called_by : (Sent → List ℕ) → ℕ → List Event → List Event → List Called
called_by bodies to before events =
    in_turn_after (λ h e. packets_by bodies to h e.stamp e.what) before events

-- the eager message that was sent among these, if one was
abbrev pub eager_sent : List Happened → Option ℕ
eager_sent [] = None
eager_sent (Send to n tag ctx len Eager line ∷ ws) = Some n
eager_sent (w ∷ ws) = eager_sent ws

-- This happened at a rank, from a clock on: the events have the stamps that follow it, and to each
-- rank the packets are put that the events call for, with the clock after them as their stamp. An
-- eager message that is sent leaves with its last packet.
pub record Happens (bodies : Sent → List ℕ) (start : ℕ) (ws : List Happened) (old new : RankView)
    : Type 0 where
  pub events : new.events ≡ old.events ++ stamped start ws
  pub clock : new.clock ≡ start + length ws
  pub packets :
      Puts (λ to. called_by bodies to old.events (stamped start ws)) (eager_sent ws) new.clock
      old.sending.outbox new.sending.outbox
  pub pushed : new.sending.pushed ≡ old.sending.pushed

-- This happened, and nothing was put.
pub record Notes (ws : List Happened) (old new : RankView) : Type 0 where
  pub events : new.events ≡ old.events ++ stamped old.clock ws
  pub clock : new.clock ≡ old.clock + length ws

-- no packet and no piece came: what is known of the ranks, the counts and the bytes that came are the same
pub record TakesNone (old new : RankView) : Type 0 where
  pub me : new.me ≡ old.me
  pub sizes : new.sizes ≡ old.sizes
  pub known : new.known ≡ old.known
  pub took : new.took ≡ old.took
  pub pulled : new.pulled ≡ old.pulled
  pub drawn : new.receiving.drawn ≡ old.receiving.drawn
  pub streams : new.receiving.streams ≡ old.receiving.streams
  pub bytes : SameBytes old.receiving new.receiving
  pub strays : new.strays ≡ old.strays

-- the packets to a rank that clear this message, where it was sent by asking
abbrev pub clearance_of : ℕ → Option Arrival → ℕ → List Called
clearance_of stamp None to = []
clearance_of stamp (Some a) to =
    if is_ask a.env.how then only_to a.env.from stamp (what.Clear a.n) to else []

-- a start: this happened, no packet came, and the request is new
pub record Starts (bodies : Sent → List ℕ) (ws : List Happened) (kind : Kind) (old new : RankView)
    (r : Req) : Type 0 where
  pub happened : Happens bodies old.clock ws old new
  pub request : AddsRequest old.requests new.requests r kind
  pub takes : TakesNone old new

-- the count of strays after what continued or did not: it stands still at the last number of 64
-- bits
abbrev pub strays_after : Bool → ℕ → ℕ
strays_after continued strays = if continued then strays else min (strays + 1) 18446744073709551615

-- whether a packet continues its stream
abbrev pub taken_of : RankView → Packet → Taken
taken_of v p =
    record { packet = p; continued = continues v.sizes.eager (known_from v.known p.from) v.events p }

-- what a packet makes happen
abbrev pub made_of : RankView → Packet → List Happened
made_of v p = taken_events (known_from v.known p.from) v.events (taken_of v p)

-- the messages that were sent by asking, after a packet of a rank that continues its stream: one
-- that it clears is cleared, and one whose recall it answers has that answer
abbrev pub offers_by : Offering → ℕ → What → Offering
offers_by v from (what.Clear n) = with_clearance v from n
offers_by v from (what.Withdrawn n done) =
    with_destined v from (with_answer (destined v from) n done)
offers_by v from _ = v

-- the same after a packet that was taken: a stray changes nothing
abbrev pub offers_after : Offering → Taken → Offering
offers_after v t = if t.continued then offers_by v t.packet.from t.packet.what else v

-- A packet was taken: the clock is set forward to its stamp, what it makes happens, and what it
-- tells is known, where it continues its stream; else it is a stray. The bytes that it carries come
-- behind those of its message.
pub record TakesPacket (p : Packet) (old new : RankView) : Type 0 where
  pub happened :
      (bodies : Sent → List ℕ) →
      Happens bodies (max old.clock p.stamp) (made_of old p) old new
  pub known :
      new.known
      ≡ slice_set old.known p.from (known_after (known_from old.known p.from) (taken_of old p))
  pub offers : new.sending.offers ≡ offers_after old.sending.offers (taken_of old p)
  pub bytes :
      AddsBytes
      (of_eager p.from (λ n. taken_bytes n (known_from old.known p.from) (taken_of old p)))
      old.receiving new.receiving
  pub took : new.took ≡ slice_set old.took p.from (count_of old.took p.from + 1)
  pub strays : new.strays ≡ strays_after (taken_of old p).continued old.strays
  pub pulled : new.pulled ≡ old.pulled
  pub drawn : new.receiving.drawn ≡ old.receiving.drawn
  pub requests : new.requests ≡ old.requests
  pub me : new.me ≡ old.me
  pub sizes : new.sizes ≡ old.sizes

-- the piece of a rank that is due next
abbrev pub next_due : RankView → ℕ → Option Due
next_due v from = slice_get (due_pieces v.events from) (drawn_from v.receiving from)

-- whether a piece is the one that is due next
abbrev pub is_next_due : RankView → Piece → Bool
is_next_due v q = option_map_or (is_due q) (next_due v q.from) false

-- A piece was taken: what it makes happens, its place is counted, and its bytes come behind those of
-- its message, where it is the next one due; else it is a stray.
pub record TakesPiece (q : Piece) (old new : RankView) : Type 0 where
  pub happened : Notes (piece_makes q.from (next_due old q.from) q) old new
  pub drawn :
      new.receiving.drawn
      ≡ slice_set old.receiving.drawn q.from
      (drawn_from old.receiving q.from + (if is_next_due old q then 1 else 0))
  pub bytes :
      AddsBytes
      (of_asked q.from
      (λ n. pulled_bytes n (record { piece = q; continued = is_next_due old q })))
      old.receiving new.receiving
  pub pulled : new.pulled ≡ slice_set old.pulled q.from (count_of old.pulled q.from + 1)
  pub strays : new.strays ≡ strays_after (is_next_due old q) old.strays
  pub known : new.known ≡ old.known
  pub took : new.took ≡ old.took
  pub sending : new.sending ≡ old.sending
  pub requests : new.requests ≡ old.requests
  pub me : new.me ≡ old.me
  pub sizes : new.sizes ≡ old.sizes
