-- The fields with more room.
use Rattle.std.proofs.Common.{◌≡◌, ℕ, ◌≤◌, List, sym, ◌∙◌, ap, subst, arith}
use Rattle.nm_types.specs.Sizes.{Sizes}
use Rattle.nm_history.specs.Known.{Known}
use Rattle.nm_rank.specs.Journals.{JournalView}
use Rattle.nm_request.specs.Requests.{Live, SameRequests}
use Rattle.nm_sending.specs.Calls.{SameButRoom}
use Rattle.nm_sending.specs.Departures.{SendingView}
use Rattle.nm_receiving.specs.Receipts.{ReceivingView}
use Rattle.nm_rank.specs.Fields.{AreFields}
use Rattle.nm_rank.proofs.Goes.{sent-outbox}

-- more room in the outbox
abbrev roomy : SendingView → ℕ → SendingView
roomy s spare = record s { outbox = record s.outbox { spare = spare } }

-- more room for events and for requests
abbrev longer : JournalView → ℕ → JournalView
longer j spare = record j { spare = spare }

abbrev wider : Live → ℕ → Live
wider q spare = record q { spare = spare }

fields-roomy : (me : ℕ) (sizes : Sizes) (j : JournalView) (s : SendingView) (r : ReceivingView)
    (known : List Known) (q : Live) (took pulled : List ℕ) (events letters requests : ℕ)
    → j.spare ≤ events
    → AreFields me sizes j s r known q took pulled
    → AreFields me sizes (longer j events) (roomy s letters) r known (wider q requests) took pulled
fields-roomy me sizes j s r known q took pulled events letters requests more a = record {
  history = record {
    right = a.history.right;
    sent = sent-outbox s _ j.events a.history.sent;
    received = a.history.received;
    agrees = a.history.agrees;
  };
  peers = record {
    shape = a.peers.shape;
    own = a.peers.own;
    within = a.peers.within;
    to = a.peers.to;
    streams = a.peers.streams;
    packets = a.peers.packets;
    pieces = a.peers.pieces;
  };
  told = record {
    counts = a.told.counts;
    missing = a.told.missing;
    cleared = a.told.cleared;
    few = a.told.few;
    drawn = a.told.drawn;
  };
  requests = record {
    sends = a.requests.sends;
    receives = a.requests.receives;
    apart = a.requests.apart;
  };
  room = record { events = omega (arith, a.room.events); few = a.room.few };
}

-- the fields after room was made
pub fields-room : (me : ℕ) (sizes : Sizes) (j j' : JournalView) (s s' : SendingView)
    (r : ReceivingView) (known : List Known) (q q' : Live) (took pulled : List ℕ)
    → j' ≡ record j { spare = j'.spare } → j.spare ≤ j'.spare
    → s' ≡ record s { outbox = record s.outbox { spare = s'.outbox.spare } }
    → SameRequests q q'
    → AreFields me sizes j s r known q took pulled
    → AreFields me sizes j' s' r known q' took pulled
fields-room me sizes j j' s s' r known q q' took pulled ej more es eq a =
    subst (λ (x : JournalView). AreFields me sizes x s' r known q' took pulled) (sym ej)
    (subst (λ (x : SendingView). AreFields me sizes (longer j j'.spare) x r known q' took pulled) (sym es)
    (subst (λ (x : Live). AreFields me sizes (longer j j'.spare) (roomy s s'.outbox.spare) r known x took
    pulled) (sym eq.requests)
    (fields-roomy me sizes j s r known q took pulled j'.spare s'.outbox.spare q'.spare more a)))

-- other room, twice
pub room-again : (s t u : SendingView) → SameButRoom s t → SameButRoom t u → SameButRoom s u
room-again s t u first again = again ∙ ap (λ (x : SendingView). roomy x u.outbox.spare) first
