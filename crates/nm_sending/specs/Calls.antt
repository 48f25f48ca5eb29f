-- What each call does to a rank's sending side. MPI 3.1, 3.4, 3.7.3, 3.8.4.
use Rattle.std.specs.Prelude.{◌≡◌, ℕ, ◌+◌, ◌<◌, ◌≤◌, ◌==◌, ◌&&◌, Bool, false, not, Option, Some, None}
use Rattle.std.specs.Prelude.{List, [], ◌∷◌, ◌++◌, if◌then◌else◌, length, filter, replicate, slice_set}
use Rattle.std.specs.Prelude.{IfSome, option_and_then}
use Rattle.std.specs.List.{slice_get}
use Rattle.nm_types.specs.Bodies.{body_len, bytes_of}
use Rattle.nm_types.specs.declared.limits.TheConstants.{MAX_PACKETS, MAX_STAMP}
use Rattle.nm_types.specs.declared.messages.How.{How}
use Rattle.nm_types.specs.declared.packets.What.TheVariants as what
use Rattle.nm_types.specs.declared.scripts.Body.{Body}
use Rattle.nm_history.specs.declared.events.Event.{Event}
use Rattle.nm_history.specs.declared.events.Happened.{Happened}
use Rattle.nm_history.specs.declared.events.Happened.TheVariants.{Send, Out, Recall, Undone}
use Rattle.nm_history.specs.Clearance.{pushed_out}
use Rattle.nm_history.specs.Delivery.{is_asked}
use Rattle.nm_history.specs.Effects.{is_empty_send}
use Rattle.nm_history.specs.Outgoing.{packets_by}
use Rattle.nm_history.specs.Sends.{Sent, is_ask, sends}
use Rattle.nm_rndv.specs.Offers.{Offering, destined, first_leaving, no_offers, out_by_piece, with_answer}
use Rattle.nm_rndv.specs.Offers.{with_asked}
use Rattle.nm_rndv.specs.Offers.{with_clearance, with_destined, with_popped, with_recall}
use Rattle.nm_sending.specs.declared.TheConstants.{MAX_MESSAGES}
use Rattle.nm_sending.specs.Departures.{SendingView, cleared_to, departures_to, ended_by, ends_to, pushed_to}
use Rattle.nm_sending.specs.Outboxes.{OutboxView, popped_to, put_to}
use Rattle.nm_sending.specs.Sent.{AreSent, Preserves, Puts, only_to, outs}

-- nothing changed but for how many notes there is room
abbrev pub SameButRoom : SendingView → SendingView → Type 0
SameButRoom old new = new ≡ record old { outbox = record old.outbox { spare = new.outbox.spare } }

-- nothing was sent, at this one of so many ranks
pub record SentNothing (ranks i : ℕ) (v : SendingView) : Type 0 where
  pub me : v.outbox.me ≡ i
  pub letters : v.outbox.letters ≡ []
  pub popped : v.outbox.popped ≡ replicate ranks 0
  pub none : AreSent v []
  pub offers : v.offers ≡ no_offers ranks
  pub pushed : v.pushed ≡ replicate ranks 0
  pub staying : v.staying ≡ 0

-- One message more can be sent to a rank, in 17 packets at most, and be counted.
pub record HasRoomFor (v : SendingView) (to : ℕ) : Type 0 where
  pub few : length (departures_to v to) < MAX_MESSAGES
  pub room : put_to v.outbox to + 17 ≤ MAX_PACKETS
  pub counted : v.staying < MAX_STAMP

-- a message of this body to a rank, with this number and stamp, of the command of this line
abbrev pub sent_as : ℕ → ℕ → ℕ → Body → How → ℕ → ℕ → ℕ → Sent
sent_as to tag ctx body how stamp n line =
    record {
      stamp = stamp;
      to = to;
      n = n;
      tag = tag;
      ctx = ctx;
      len = body_len body;
      how = how;
      line = line;
    }

-- what happens where a send is started
abbrev pub event_of : Sent → Happened
event_of s = Send s.to s.n s.tag s.ctx s.len s.how s.line

-- the messages that were sent by asking, after a send of this body: it is one more, if it is sent so
abbrev pub offers_sent : Offering → Sent → Body → Offering
offers_sent offers s body =
    if is_ask s.how
    then with_destined offers s.to (with_asked (destined offers s.to) s.n body)
    else offers

-- The packets of a message were put, or the one that asks for it, and then its body is kept. An eager
-- message leaves with the last of its packets.
pub record PutsMessage (s : Sent) (body : Body) (old new : OutboxView) (offers offers' : Offering)
    : Type 0 where
  pub puts :
      (h : List Event) →
      Puts (λ to. packets_by (λ _. bytes_of body) to h s.stamp (event_of s))
      (if is_ask s.how then None else Some s.n) s.stamp old new
  pub ends :
      (to : ℕ) →
      ends_to to new.letters
      ≡ ends_to to old.letters ++ (if s.to == to && not (is_ask s.how) then s.n ∷ [] else [])
  pub asked : offers' ≡ offers_sent offers s body

-- The next message to a rank was sent: it was put, and is one more that has not left.
pub record SendsMessage (s : Sent) (body : Body) (old new : SendingView) : Type 0 where
  pub number : s.n ≡ length (departures_to old s.to)
  pub put : PutsMessage s body old.outbox new.outbox old.offers new.offers
  pub kept : Preserves old new (event_of s ∷ [])
  pub counted : new.staying ≡ old.staying + 1
  pub same : new.pushed ≡ old.pushed

-- The receiver of message n to a rank was asked to withdraw it, by a packet with this stamp.
pub record RecallsMessage (to n stamp : ℕ) (old new : SendingView) : Type 0 where
  pub puts :
      (called : ℕ) → called ≤ stamp →
      Puts (only_to to called (what.Withdraw n)) None stamp old.outbox new.outbox
  pub kept : Preserves old new (Recall to n ∷ [])
  pub counted : new.staying ≡ old.staying
  pub recalled : new.offers ≡ with_destined old.offers to (with_recall (destined old.offers to) n)
  pub same : new.pushed ≡ old.pushed

-- Message n to a rank was cleared, and this is whether it has left by that, as one without bytes has.
pub record ClearsMessage (to n : ℕ) (out : Bool) (old new : SendingView) : Type 0 where
  pub value : (h : List Event) → AreSent old h → out ≡ is_empty_send h to n
  pub kept : Preserves old new (if out then Out to n ∷ [] else [])
  pub cleared : new.offers ≡ with_clearance old.offers to n
  pub counted : old.staying ≡ new.staying + (if out then 1 else 0)
  pub outbox : new.outbox ≡ old.outbox
  pub same : new.pushed ≡ old.pushed

-- The recall of message n to a rank had this answer: it was withdrawn, or it was too late.
pub record AnswersRecall (to n : ℕ) (done : Bool) (old new : SendingView) : Type 0 where
  pub kept : Preserves old new (Undone to n done ∷ [])
  pub counted : new.staying ≡ old.staying
  pub answered :
      new.offers ≡ with_destined old.offers to (with_answer (destined old.offers to) n done)
  pub outbox : new.outbox ≡ old.outbox
  pub same : new.pushed ≡ old.pushed

-- The first packet was taken away. This eager message has left by that, if one has: the one whose last
-- packet it was.
pub record PopsFirstPacket (out : Option (ℕ × ℕ)) (old new : SendingView) : Type 0 where
  pub last : out ≡ ended_by (slice_get old.outbox.letters 0)
  pub eager :
      IfSome out (λ m. (h : List Event) → AreSent old h → is_asked (sends h m.0) m.1 ≡ false)
  pub popped :
      IfSome (slice_get old.outbox.letters 0) (λ letter.
      (old.outbox.letters ≡ letter ∷ new.outbox.letters)
      × (new.outbox
      ≡ record old.outbox {
        letters = new.outbox.letters;
        popped = slice_set old.outbox.popped letter.to (popped_to old.outbox letter.to + 1);
        spare = new.outbox.spare;
      }))
  pub room : old.outbox.spare ≤ new.outbox.spare
  pub kept : Preserves old new (outs out)
  pub counted : old.staying ≡ new.staying + length (outs out)
  pub offers : new.offers ≡ old.offers
  pub same : new.pushed ≡ old.pushed

-- The next piece was counted as pushed. This message has left by that, if one has: the one whose last
-- piece it was, and the next one in the order of the clearances.
pub record PopsNextPiece (out : Option (ℕ × ℕ)) (old new : SendingView) : Type 0 where
  pub popped : IfSome (first_leaving old.offers) (λ m. new.offers ≡ with_popped old.offers m)
  pub pushed :
      IfSome (first_leaving old.offers) (λ m.
      new.pushed ≡ slice_set old.pushed m.0 (pushed_to old m.0 + 1))
  pub last : out ≡ option_and_then (out_by_piece old.offers) (first_leaving old.offers)
  pub to : IfSome out (λ m. m.0 < length old.outbox.popped)
  pub kept : Preserves old new (outs out)
  pub in_turn :
      IfSome out (λ m. (h : List Event) → AreSent old h →
      slice_get (filter (λ n. not (is_empty_send h m.0 n)) (cleared_to old m.0))
      (length (pushed_out h m.0)) ≡ Some m.1)
  pub counted : old.staying ≡ new.staying + length (outs out)
  pub outbox : new.outbox ≡ old.outbox
