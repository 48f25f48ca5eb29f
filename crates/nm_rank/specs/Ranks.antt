-- What contracts see of the core of one rank.
use Rattle.std.specs.Prelude.{ℕ, ◌-◌, ◌<◌, List, length, slice_index_or}
use Rattle.nm_types.specs.Sizes.{Sizes}
use Rattle.nm_types.specs.declared.limits.TheConstants.{MAX_PACKETS}
use Rattle.nm_history.specs.declared.events.Event.{Event}
use Rattle.nm_history.specs.Completion.{Request}
use Rattle.nm_history.specs.Completion.Request.{Sending, Receiving}
use Rattle.nm_history.specs.Sends.{sends}
use Rattle.nm_history.specs.Continues.{WORN_STAMP}
use Rattle.nm_history.specs.Known.{Known, nothing_known}
use Rattle.nm_rank.specs.Journals.{JournalView}
use Rattle.nm_request.specs.Requests.{Live}
use Rattle.nm_request.specs.declared.Kind.{Kind}
use Rattle.nm_request.specs.declared.Kind.TheVariants as kind
use Rattle.nm_request.specs.declared.TheConstants.{MAX_REQUESTS}
use Rattle.nm_sending.specs.Outboxes.{put_to}
use Rattle.nm_sending.specs.declared.TheConstants.{MAX_MESSAGES}
use Rattle.nm_sending.specs.Departures.{SendingView}
use Rattle.nm_receiving.specs.Receipts.{ReceivingView}

-- The rank and the sizes of the run; its history and its clock; what it sends and what it receives;
-- what the packets of each rank tell; its live requests; by rank how many packets and pieces were
-- taken; and how many of these were strays. Room is no part of it.
pub record RankView : Type 0 where
  pub me : ℕ
  pub sizes : Sizes
  pub events : List Event
  pub clock : ℕ
  pub sending : SendingView
  pub receiving : ReceivingView
  pub known : List Known
  pub requests : Live
  pub took : List ℕ
  pub pulled : List ℕ
  pub strays : ℕ

-- a rank's sending side without its room
abbrev pub roomless : SendingView → SendingView
roomless s = record s { outbox = record s.outbox { spare = 0 } }

-- what a rank with these parts is seen as
abbrev pub seen : ℕ → Sizes → JournalView → SendingView → ReceivingView → List Known → Live
    → List ℕ → List ℕ → ℕ → RankView
seen me sizes j s r known q took pulled strays =
    record {
      me = me;
      sizes = sizes;
      events = j.events;
      clock = j.clock;
      sending = roomless s;
      receiving = r;
      known = known;
      requests = record q { spare = 0 };
      took = took;
      pulled = pulled;
      strays = strays;
    }

-- what the packets of a rank tell
abbrev pub known_from : List Known → ℕ → Known
known_from known from = slice_index_or known from nothing_known

-- the count of a rank
abbrev pub count_of : List ℕ → ℕ → ℕ
count_of counts from = slice_index_or counts from 0

-- what histories call a request
abbrev pub request_of : Kind → Request
request_of (kind.Send to n) = Sending to n
request_of (kind.Receive number) = Receiving number

-- The rank can go on: its clock, its requests, and its messages and packets to each rank are below
-- their limits.
pub record IsFresh (v : RankView) : Type 0 where
  pub clock : v.clock < WORN_STAMP
  pub requests : v.requests.added < MAX_REQUESTS
  pub messages :
      (to : ℕ) → to < v.sizes.ranks →
      (length (sends v.events to) < MAX_MESSAGES)
      × (put_to v.sending.outbox to < MAX_PACKETS - 32)
