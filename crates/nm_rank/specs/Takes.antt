-- What a packet that continues its stream does.
use Rattle.std.specs.Prelude.{◌≡◌, ℕ, ◌+◌, ◌<◌, ◌≤◌, Bool, true, if◌then◌else◌, List, [], ◌++◌, length}
use Rattle.nm_types.specs.declared.limits.TheConstants.{MAX_PACKETS}
use Rattle.nm_types.specs.declared.packets.Packet.{Packet}
use Rattle.nm_types.specs.declared.packets.What.{What}
use Rattle.nm_types.specs.declared.packets.What.TheVariants as what
use Rattle.nm_history.specs.declared.events.Event.{Event}
use Rattle.nm_history.specs.Outgoing.{Called}
use Rattle.nm_history.specs.Agreement.{Agrees}
use Rattle.nm_history.specs.Bytes.{bytes_in}
use Rattle.nm_history.specs.Continues.{continues}
use Rattle.nm_history.specs.Effects.{happenings, packet_events}
use Rattle.nm_history.specs.Known.{Known, learned}
use Rattle.nm_history.specs.Rules.{AreRight}
use Rattle.nm_sending.specs.Departures.{SendingView, cleared_to}
use Rattle.nm_sending.specs.Sent.{AreSent, only_to}
use Rattle.nm_receiving.specs.Receipts.{AddsBytes, ReceivingView, of_eager, stream_of}
use Rattle.nm_receiving.specs.Received.{AreReceived, PreservesSender}
use Rattle.nm_rank.specs.Calls.{offers_by}
use Rattle.nm_rank.specs.Fields.{endings}

-- what the packets of a rank tell is what came of its messages, and which messages it cleared
pub record Tells (known : Known) (from : ℕ) (s : SendingView) (r : ReceivingView) : Type 0 where
  pub told : PreservesSender r from known
  pub cleared : known.cleared ≡ cleared_to s from

-- The packet continues its stream, by some history and by what is known of its sender.
pub record MayBeAccepted (s : SendingView) (r : ReceivingView) (p : Packet) : Type 0 where
  pub history : List Event
  pub known : Known
  pub sent : AreSent s history
  pub received : AreReceived r history
  pub agrees : Agrees p.from history known
  pub tells : Tells known p.from s r
  pub continued : continues r.sizes.eager known history p ≡ true
  pub sender : p.from < r.sizes.ranks
  pub receiver : p.from < length s.outbox.popped
  pub few : known.count < MAX_PACKETS

-- After the packet the messages are those of the history with the events that it makes, which are
-- right; and what its sender tells is what is learned.
pub record Accepts (p : Packet) (s s' : SendingView) (r r' : ReceivingView) : Type 0 where
  pub kept :
      (h events : List Event) (known : Known) →
      Agrees p.from h known → Tells known p.from s r → continues r.sizes.eager known h p ≡ true →
      happenings events ≡ packet_events known h p.from p.what (length p.payload) →
      AreSent s h → AreReceived r h → AreRight r.sizes.ranks [] h →
      AreSent s' (h ++ events) × AreReceived r' (h ++ events) × AreRight r.sizes.ranks h events
  pub tells :
      (h : List Event) (known : Known) →
      Tells known p.from s r → continues r.sizes.eager known h p ≡ true →
      Tells (learned known p.what (length p.payload)) p.from s' r'
  pub others : (other : ℕ) (known : Known) → ¬ (other ≡ p.from) → Tells known other s r → Tells known other s' r'
  pub outbox : s'.outbox ≡ s.outbox
  pub staying :
      (h : List Event) (known : Known) → AreSent s h → continues r.sizes.eager known h p ≡ true →
      s.staying ≤ s'.staying + length (packet_events known h p.from p.what (length p.payload))
  pub fewer : s'.staying ≤ s.staying
  pub offers : s'.offers ≡ offers_by s.offers p.from p.what
  pub pushed : s'.pushed ≡ s.pushed
  pub bytes :
      (known : Known) → known.count ≡ (stream_of r p.from).count →
      AddsBytes (of_eager p.from (λ n. bytes_in n known p.what p.payload)) r r'
  pub sizes : r'.sizes ≡ r.sizes
  pub drawn : r'.drawn ≡ r.drawn
  pub ended : endings r' ≡ endings r

-- The answer to a packet, for a rank: the clearance of the announced message n, where a receive
-- takes it at once, or the answer to a withdrawal.
abbrev pub reply_of : ℕ → ℕ → What → Bool → ℕ → ℕ → List Called
reply_of n from (what.Ask tag ctx len) done stamp to =
    if done then only_to from stamp (what.Clear n) to else []
reply_of n from (what.Withdraw m) done stamp to = only_to from stamp (what.Withdrawn m done) to
reply_of n from _ done stamp to = []
