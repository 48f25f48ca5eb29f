-- How a rank's receiving side stands to its history, and how the two go on. MPI 3.1, 3.5, 3.7.3, 3.8.
use Rattle.std.specs.Prelude.{◌≡◌, ℕ, Bool, true, false, List, [], ◌++◌, length, option_map}
use Rattle.std.specs.Prelude.{IsSomeAnd, IsTrue}
use Rattle.std.specs.List.{slice_get}
use Rattle.std.specs.Option.{option_map_or}
use Rattle.nm_history.specs.declared.events.Event.{Event}
use Rattle.nm_history.specs.declared.events.Happened.{Happened}
use Rattle.nm_history.specs.declared.events.Happened.TheVariants.{Post, Arrive, Whole, Cancel}
use Rattle.nm_history.specs.declared.events.Happened.TheVariants.{Withdraw, Claim, Match}
use Rattle.nm_history.specs.Completion.{is_taken, pair_of_receive}
use Rattle.nm_history.specs.Happens.{happened, is_whole, is_cancel}
use Rattle.nm_history.specs.Matching.{matched_pairs, is_claimed}
use Rattle.nm_history.specs.Sends.{arrivals, is_ask, receives, message_of}
use Rattle.nm_types.specs.declared.packets.Packet.{Packet}
use Rattle.nm_history.specs.Effects.{happenings, packet_events}
use Rattle.nm_history.specs.Known.{Known}
use Rattle.nm_history.specs.Rest.{EmptyAreHere}
use Rattle.nm_history.specs.Rules.{AreRight}
use Rattle.nm_match.specs.Deeds.{Represents}
use Rattle.nm_eager.specs.Streams.{Stream, missing}
use Rattle.nm_receiving.specs.Pieces.{AreDue}
use Rattle.nm_receiving.specs.Receipts.{ReceivingView, receipts_from, receipt_of, granted_to, drawn_from}
use Rattle.nm_receiving.specs.Receipts.{pair_at, stream_of}

-- The matcher's deeds, the messages and the receives are those of a history, each with what became of it;
-- what is due of a sender's grants is what the history says, behind the pieces that continued; and each
-- message that was asked for, has no bytes and is paired is here.
pub record AreReceived (v : ReceivingView) (h : List Event) : Type 0 where
  pub stands : Represents v.deeds h
  pub arrived : (from : ℕ) → length (receipts_from v from) ≡ length (arrivals h from)
  pub messages :
      (from n : ℕ) → option_map (λ m. m.arrival) (receipt_of v from n) ≡ message_of h from n
  pub whole :
      (from n : ℕ) →
      option_map_or (λ m. m.whole) (receipt_of v from n) false ≡ happened (is_whole from n) h
  pub count : length v.receives ≡ length (receives h)
  pub pairs : (number : ℕ) → pair_at v number ≡ pair_of_receive h number
  pub cancelled :
      (number : ℕ) →
      option_map_or (λ r. r.cancelled) (slice_get v.receives number) false
      ≡ happened (is_cancel number) h
  pub due : (from : ℕ) → AreDue (granted_to v from) h from (drawn_from v from)
  pub empty : EmptyAreHere h

-- Message n of a sender is owed: it was sent by asking, a receive took it, and no event says that it is whole.
pub record IsOwed (h : List Event) (from n : ℕ) : Type 0 where
  pub asked : IsSomeAnd (message_of h from n) (λ a. is_ask a.env.how ≡ true)
  pub taken : is_taken h from n ≡ true
  pub lacking : happened (is_whole from n) h ≡ false

-- After this happened the messages and receives are those of the longer history, and it may come after the
-- events before it.
abbrev pub Preserves : ReceivingView → ReceivingView → List Happened → Type 0
Preserves old new ws =
    (h events : List Event) → happenings events ≡ ws → AreReceived old h → AreRight old.sizes.ranks [] h →
    AreReceived new (h ++ events) × AreRight old.sizes.ranks h events

-- The same of a packet that continues its stream, with what the protocol says that it makes happen.
abbrev pub TakesPacket : ReceivingView → ReceivingView → Packet → Type 0
TakesPacket old new p =
    (h events : List Event) (known : Known) → known.count ≡ (stream_of old p.from).count →
    known.missing ≡ missing (stream_of old p.from) →
    happenings events ≡ packet_events known h p.from p.what (length p.payload) →
    AreReceived old h → AreRight old.sizes.ranks [] h →
    AreReceived new (h ++ events) × AreRight old.sizes.ranks h events

-- Message n of a sender may be taken by a matched receive: by some history it is claimed and not received.
pub record MayBeTaken (v : ReceivingView) (from n : ℕ) : Type 0 where
  pub history : List Event
  pub messages : AreReceived v history
  pub right : AreRight v.sizes.ranks [] history
  pub claimed : IsTrue (is_claimed history (matched_pairs history) from n)

-- the event is one of receives and of messages that come
abbrev pub is_of_receiving : Happened → Bool
is_of_receiving (Post p line) = true
is_of_receiving (Arrive a) = true
is_of_receiving (Whole from n) = true
is_of_receiving (Cancel number done) = true
is_of_receiving (Withdraw from n done) = true
is_of_receiving (Claim from n line) = true
is_of_receiving (Match number from n cap line) = true
is_of_receiving _ = false

-- what the packets of a rank tell of its messages is what came of them
pub record IsTold (stream : Stream) (known : Known) : Type 0 where
  pub count : known.count ≡ stream.count
  pub lacks : known.missing ≡ missing stream

-- the same of one sender of a rank
abbrev pub PreservesSender : ReceivingView → ℕ → Known → Type 0
PreservesSender v from known = IsTold (stream_of v from) known
