-- What each call does to a rank's receiving side. MPI 3.1, 3.5, 3.7.3, 3.8.
use Rattle.std.specs.Prelude.{◌≡◌, ℕ, ◌+◌, ◌<◌, true, false, if◌then◌else◌, Option, Some, List, [], ◌∷◌, ◌++◌}
use Rattle.std.specs.Prelude.{length, map, option_map, slice_set, IfSome, IsNone, IsSome}
use Rattle.std.specs.List.{slice_get}
use Rattle.std.specs.Option.{option_map_or}
use Rattle.nm_types.specs.Sizes.{Sizes}
use Rattle.nm_types.specs.declared.answers.Answer.{Answer}
use Rattle.nm_types.specs.declared.limits.TheConstants.{MAX_PACKETS}
use Rattle.nm_types.specs.declared.messages.Arrival.{Arrival}
use Rattle.nm_types.specs.declared.packets.Packet.{Packet}
use Rattle.nm_types.specs.declared.packets.Piece.{Piece}
use Rattle.nm_history.specs.declared.events.Event.{Event}
use Rattle.nm_history.specs.declared.events.Happened.{Happened}
use Rattle.nm_history.specs.Answers.{without_bytes}
use Rattle.nm_history.specs.Bytes.{bytes_in, pulled_bytes}
use Rattle.nm_history.specs.Completion.{result_of}
use Rattle.nm_history.specs.Completion.Request.{Receiving}
use Rattle.nm_history.specs.Effects.{whole_if}
use Rattle.nm_history.specs.Known.{Known}
use Rattle.nm_history.specs.Pieces.{due_pieces, is_due, piece_makes}
use Rattle.nm_eager.specs.Streams.{after, continues, is_kept, missing, nothing_came}
use Rattle.nm_receiving.specs.declared.receipts.Receive.{Receive}
use Rattle.nm_receiving.specs.declared.receivings.Drawn.{Drawn}
use Rattle.nm_receiving.specs.declared.receivings.Started.{Started}
use Rattle.nm_receiving.specs.Receipts.{AddsBytes, ReceivingView, SameBytes, SameOtherBytes, ShowsBytes}
use Rattle.nm_receiving.specs.Receipts.{came_of, drawn_from, of_asked, of_eager, pair_at, stream_of}
use Rattle.nm_receiving.specs.Receipts.{taken_events}
use Rattle.nm_receiving.specs.Received.{AreReceived, Preserves, TakesPacket}
use Rattle.nm_receiving.specs.Steps.{with_ended}

-- nothing came and nothing was received, in a run of these sizes
pub record ReceivedNothing (shape : Sizes) (v : ReceivingView) : Type 0 where
  pub sizes : v.sizes ≡ shape
  pub none : AreReceived v []
  pub streams : (from : ℕ) → stream_of v from ≡ nothing_came
  pub pieces : (from : ℕ) → drawn_from v from ≡ 0
  pub bytes : (a : Arrival) → came_of v a ≡ []
  pub receives : v.receives ≡ []
  pub drawn : length v.drawn ≡ shape.ranks

-- A receive of at most so many bytes was started, and took a message or not. With what begins it, by the
-- command's line, it happened that an empty message is here that was sent by asking and is taken.
pub record StartsOne (cap : ℕ) (begins : ℕ → Happened) (s : Started) (old new : ReceivingView)
    : Type 0 where
  pub number : s.number ≡ length old.receives
  pub sender : IfSome s.taken (λ a. a.env.from < old.sizes.ranks)
  pub kept : (line : ℕ) → Preserves old new (begins line ∷ taken_events s.taken)
  pub sizes : new.sizes ≡ old.sizes
  pub streams : new.streams ≡ old.streams
  pub bytes : SameBytes old new
  pub drawn : new.drawn ≡ old.drawn
  pub receives :
      new.receives
      ≡ old.receives
      ++ record { cap = cap; taken = s.taken; cancelled = false; ended = false } ∷ []

-- the receive is one of these, and its result was not given
pub record IsLiveOf (v : ReceivingView) (receive : Receive) : Type 0 where
  pub number : ℕ
  pub here : slice_get v.receives number ≡ Some receive
  pub live : receive.ended ≡ false

-- The packet is one of a message, of a rank of the run, and continues its stream.
pub record MayBeTakenIn (v : ReceivingView) (p : Packet) : Type 0 where
  pub sender : p.from < v.sizes.ranks
  pub kind : is_kept p.what ≡ true
  pub continued :
      continues v.sizes.eager (stream_of v p.from).count (missing (stream_of v p.from)) p.what
      (length p.payload) ≡ true
  pub few : (stream_of v p.from).count < MAX_PACKETS

-- A packet of a message was taken: it makes happen what the protocol says, and its bytes come behind
-- those of its message.
pub record TakesMessagePacket (p : Packet) (old new : ReceivingView) : Type 0 where
  pub kept : TakesPacket old new p
  pub streams :
      new.streams
      ≡ slice_set old.streams p.from (after (stream_of old p.from) p.what p.payload)
  pub bytes :
      (known : Known) → known.count ≡ (stream_of old p.from).count →
      AddsBytes (of_eager p.from (λ n. bytes_in n known p.what p.payload)) old new
  pub sizes : new.sizes ≡ old.sizes
  pub drawn : new.drawn ≡ old.drawn
  pub ended : map (λ r. r.ended) new.receives ≡ map (λ r. r.ended) old.receives

-- A piece came. Where it is the next one that is due it is counted, and its bytes come behind those of
-- its message; else it changes nothing.
pub record DrawsPiece (p : Piece) (d : Drawn) (old new : ReceivingView) : Type 0 where
  pub continued :
      (h : List Event) → AreReceived old h →
      d.continued
      ≡ option_map_or (is_due p) (slice_get (due_pieces h p.from) (drawn_from old p.from)) false
  pub whole :
      (h : List Event) → AreReceived old h →
      whole_if d.whole p.from p.n
      ≡ piece_makes p.from (slice_get (due_pieces h p.from) (drawn_from old p.from)) p
  pub kept : Preserves old new (whole_if d.whole p.from p.n)
  pub stray : d.continued ≡ false → new ≡ old
  pub counted :
      new.drawn
      ≡ slice_set old.drawn p.from (drawn_from old p.from + (if d.continued then 1 else 0))
  pub same :
      new
      ≡ record old {
        grants = new.grants;
        receipts = new.receipts;
        drawn = new.drawn;
      }
  pub bytes :
      AddsBytes
      (of_asked p.from (λ n. pulled_bytes n (record { piece = p; continued = d.continued })))
      old new

-- A receive was asked for its result, and gave this, if it is complete. The bytes that it shows are gone
-- then, and nothing else that came.
pub record FinishesReceive (number : ℕ) (answer : Option Answer) (old new : ReceivingView)
    : Type 0 where
  pub value :
      (h : List Event) → AreReceived old h →
      option_map without_bytes answer ≡ result_of h (Receiving number)
  pub body : IfSome answer (ShowsBytes old number)
  pub kept : (h : List Event) → AreReceived old h → AreReceived new h
  pub none : IsNone answer → new ≡ old
  pub ended : IsSome answer → new.receives ≡ with_ended old.receives number
  pub streams :
      (from : ℕ) →
      ((stream_of new from).count ≡ (stream_of old from).count)
      × (missing (stream_of new from) ≡ missing (stream_of old from))
  pub bytes : SameOtherBytes (pair_at old number) old new
  pub same :
      new
      ≡ record old {
        streams = new.streams;
        grants = new.grants;
        receives = new.receives;
      }
