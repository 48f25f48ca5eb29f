-- How the fields of a rank stand for what happened at it.
use Rattle.std.specs.Prelude.{◌≡◌, ℕ, ◌<◌, ◌≤◌, Bool, true, false, Some, List, [], length, map}
use Rattle.std.specs.List.{slice_get}
use Rattle.nm_types.specs.Sizes.{Sizes}
use Rattle.nm_history.specs.declared.events.Event.{Event}
use Rattle.nm_history.specs.Happens.{happened, is_send}
use Rattle.nm_history.specs.Agreement.{Agrees}
use Rattle.nm_history.specs.Known.{Known}
use Rattle.nm_history.specs.Rules.{AreRight}
use Rattle.nm_eager.specs.Streams.{missing}
use Rattle.nm_request.specs.declared.Req.{Req}
use Rattle.nm_request.specs.declared.Kind.TheVariants as kind
use Rattle.nm_request.specs.Requests.{Live, kind_of}
use Rattle.nm_rank.specs.Journals.{JournalView}
use Rattle.nm_sending.specs.Departures.{SendingView, cleared_to}
use Rattle.nm_sending.specs.Sent.{AreSent}
use Rattle.nm_receiving.specs.Receipts.{ReceivingView, stream_of, drawn_from}
use Rattle.nm_receiving.specs.Received.{AreReceived}
use Rattle.nm_rank.specs.Ranks.{known_from, count_of}

-- the results of receives were given, by number
abbrev pub endings : ReceivingView → List Bool
endings r = map (λ x. x.ended) r.receives

-- The history is right; what was sent and received is what it says; and what the packets of each
-- rank tell agrees with it.
pub record IsOf (ranks : ℕ) (h : List Event) (s : SendingView) (r : ReceivingView)
    (known : List Known) : Type 0 where
  pub right : AreRight ranks [] h
  pub sent : AreSent s h
  pub received : AreReceived r h
  pub agrees : (from : ℕ) → from < ranks → Agrees from h (known_from known from)

-- There is one of each for each rank of the run.
pub record HasPeers (me : ℕ) (sizes : Sizes) (s : SendingView) (r : ReceivingView)
    (known : List Known) (took pulled : List ℕ) : Type 0 where
  pub shape : r.sizes ≡ sizes
  pub own : s.outbox.me ≡ me
  pub within : me < sizes.ranks
  pub to : length s.outbox.popped ≡ sizes.ranks
  pub streams : length known ≡ sizes.ranks
  pub packets : length took ≡ sizes.ranks
  pub pieces : length pulled ≡ sizes.ranks

-- What the packets of a rank tell of its messages is what came of them, and the messages that it
-- cleared are those that were cleared, in that order; no more messages were announced than packets
-- came, and no more pieces continued than came.
pub record AreTold (ranks : ℕ) (s : SendingView) (r : ReceivingView) (known : List Known)
    (took pulled : List ℕ) : Type 0 where
  pub counts : (from : ℕ) → from < ranks → (known_from known from).count ≡ (stream_of r from).count
  pub missing :
      (from : ℕ) → from < ranks → (known_from known from).missing ≡ missing (stream_of r from)
  pub cleared : (to : ℕ) → to < ranks → (known_from known to).cleared ≡ cleared_to s to
  pub few : (from : ℕ) → from < ranks → (known_from known from).count ≤ count_of took from
  pub drawn : (from : ℕ) → from < ranks → drawn_from r from ≤ count_of pulled from

-- The live requests are of messages that were sent, and of receives whose results were not given,
-- of each of these at most one.
pub record HasRequests (ranks : ℕ) (q : Live) (h : List Event) (r : ReceivingView) : Type 0 where
  pub sends :
      (x : Req) (to n : ℕ) → kind_of q x ≡ Some (kind.Send to n) →
      (to < ranks) × (happened (is_send to n) h ≡ true)
  pub receives :
      (x : Req) (number : ℕ) → kind_of q x ≡ Some (kind.Receive number) →
      slice_get (endings r) number ≡ Some false
  pub apart :
      (x y : Req) (number : ℕ) → kind_of q x ≡ Some (kind.Receive number) →
      kind_of q y ≡ Some (kind.Receive number) → x ≡ y

-- There is room for the event of each message that has not left, and there are no more of these
-- than ticks of the clock.
pub record HasRoom (j : JournalView) (s : SendingView) : Type 0 where
  pub events : s.staying ≤ j.spare
  pub few : s.staying ≤ j.clock

-- all that the fields keep
pub record AreFields (me : ℕ) (sizes : Sizes) (j : JournalView) (s : SendingView)
    (r : ReceivingView) (known : List Known) (q : Live) (took pulled : List ℕ) : Type 0 where
  pub history : IsOf sizes.ranks j.events s r known
  pub peers : HasPeers me sizes s r known took pulled
  pub told : AreTold sizes.ranks s r known took pulled
  pub requests : HasRequests sizes.ranks q j.events r
  pub room : HasRoom j s
