-- What the fields keep stays true where a rank does something by itself.
use Rattle.std.proofs.Common.{◌≡◌, ℕ, ◌≤◌, Bool, false, Some, List, [], ◌++◌, length, sym, ◌∙◌, ap, subst}
use Rattle.std.specs.Prelude.{slice_index_or}
use Rattle.std.specs.List.{slice_get, AllByRecursion}
use Rattle.nm_types.specs.Sizes.{Sizes}
use Rattle.nm_history.specs.declared.events.Event.{Event}
use Rattle.nm_history.specs.declared.events.Happened.{Happened}
use Rattle.std.proofs.lemmas.List.{length-map}
use Rattle.std.proofs.lemmas.List.FromFn.{length-range_with_len}
use Rattle.nm_history.specs.Happens.{is_send}
use Rattle.nm_history.specs.Sends.{sends}
use Rattle.nm_history.specs.Agreement.{tells}
use Rattle.nm_history.specs.Clock.{stamped}
use Rattle.nm_history.specs.Known.{Known}
use Rattle.nm_history.specs.Rules.{AreRight}
use Rattle.nm_history.proofs.Agreeing.{agrees-other}
use Rattle.nm_history.proofs.Growing.{stamped-same}
use Rattle.nm_history.proofs.Right.{right-append}
use Rattle.nm_eager.specs.Streams.{missing}
use Rattle.nm_rank.specs.Journals.{JournalView}
use Rattle.nm_sending.specs.Outboxes.{OutboxView}
use Rattle.nm_request.specs.Requests.{Live}
use Rattle.nm_sending.specs.Departures.{SendingView, departures_to}
use Rattle.nm_sending.specs.Sent.{AreSent}
use Rattle.nm_sending.proofs.TurnLemmas.{numbers_to}
use Rattle.nm_receiving.specs.Receipts.{ReceivingView, stream_of}
use Rattle.nm_receiving.specs.Received.{AreReceived}
use Rattle.nm_rank.specs.Ranks.{known_from, count_of}
use Rattle.nm_rank.specs.Fields.{AreFields, IsOf, HasPeers, AreTold, HasRequests, HasRoom, endings}
use Rattle.nm_receiving.proofs.Grow.{happened_later}

-- the outbox plays no part in what became of messages
pub sent-outbox : (v : SendingView) (o : OutboxView) (h : List Event) → AreSent v h
    → AreSent (record v { outbox = o }) h
sent-outbox v o h a = record {
  numbers = a.numbers;
  sent = a.sent;
  asked = a.asked;
  empty = a.empty;
  out = a.out;
  recalled = a.recalled;
  undone = a.undone;
  in_turn = a.in_turn;
}

-- requests of a longer history, where the receives and the requests are the same
pub requests-more : (ranks : ℕ) (q : Live) (h more : List Event) (r r' : ReceivingView)
    → endings r' ≡ endings r → HasRequests ranks q h r → HasRequests ranks q (h ++ more) r'
requests-more ranks q h more r r' same a = record {
  sends = λ x to n k. (let s = a.sends x to n k in (s.0, happened_later (is_send to n) h more s.1));
  receives = λ x number k. subst (λ (es : List Bool). slice_get es number ≡ Some false) (sym same)
      (a.receives x number k);
  apart = a.apart;
}

-- what a rank's two sides are after it did something by itself, beside its packets and pieces
pub record StaysTold (s s' : SendingView) (r r' : ReceivingView) : Type 0 where
  pub me : s'.outbox.me ≡ s.outbox.me
  pub to : length s'.outbox.popped ≡ length s.outbox.popped
  pub order : s'.offers.order ≡ s.offers.order
  pub sizes : r'.sizes ≡ r.sizes
  pub drawn : r'.drawn ≡ r.drawn
  pub counts : (from : ℕ) → (stream_of r' from).count ≡ (stream_of r from).count
  pub missing : (from : ℕ) → missing (stream_of r' from) ≡ missing (stream_of r from)

-- events with the history after them
pub record Goes (ranks : ℕ) (h : List Event) (ws : List Happened) (c : ℕ) (s' : SendingView)
    (r' : ReceivingView) : Type 0 where
  pub sent : AreSent s' (h ++ stamped c ws)
  pub received : AreReceived r' (h ++ stamped c ws)
  pub right : AreRight ranks h (stamped c ws)

pub peers-stay : (me : ℕ) (sizes : Sizes) (s s' : SendingView) (r r' : ReceivingView)
    (known : List Known) (took pulled : List ℕ) → StaysTold s s' r r'
    → HasPeers me sizes s r known took pulled → HasPeers me sizes s' r' known took pulled
peers-stay me sizes s s' r r' known took pulled k a = record {
  shape = k.sizes ∙ a.shape;
  own = k.me ∙ a.own;
  within = a.within;
  to = k.to ∙ a.to;
  streams = a.streams;
  packets = a.packets;
  pieces = a.pieces;
}

pub told-stays : (ranks : ℕ) (s s' : SendingView) (r r' : ReceivingView)
    (known : List Known) (took pulled : List ℕ) → StaysTold s s' r r'
    → AreTold ranks s r known took pulled → AreTold ranks s' r' known took pulled
told-stays ranks s s' r r' known took pulled k a = record {
  counts = λ from b. (a.counts from b ∙ sym (k.counts from));
  missing = λ from b. (a.missing from b ∙ sym (k.missing from));
  cleared = λ to b. (a.cleared to b ∙ ap (numbers_to to) (sym k.order));
  few = a.few;
  drawn = λ from b. subst (λ (ds : List ℕ). slice_index_or ds from 0 ≤ count_of pulled from)
      (sym k.drawn) (a.drawn from b);
}

-- no packet of any rank tells of this
abbrev pub TellsNone : List Happened → Type 0
TellsNone ws = (from : ℕ) → AllByRecursion (λ w. tells from w ≡ false) ws

pub history-goes : (ranks : ℕ) (h : List Event) (ws : List Happened) (c : ℕ) (s s' : SendingView)
    (r r' : ReceivingView) (known : List Known) → TellsNone ws → Goes ranks h ws c s' r'
    → IsOf ranks h s r known → IsOf ranks (h ++ stamped c ws) s' r' known
history-goes ranks h ws c s s' r r' known none g a = record {
  right = right-append ranks [] h (stamped c ws) a.right g.right;
  sent = g.sent;
  received = g.received;
  agrees = λ from b. agrees-other from h (stamped c ws) (known_from known from)
      (subst (λ (k : List Happened). AllByRecursion (λ w. tells from w ≡ false) k)
      (sym (stamped-same c ws)) (none from)) (a.agrees from b);
}

-- the fields after a rank did something by itself
pub acts : (me : ℕ) (sizes : Sizes) (j j' : JournalView) (s s' : SendingView) (r r' : ReceivingView)
    (known : List Known) (q q' : Live) (took pulled : List ℕ) (ws : List Happened)
    → AreFields me sizes j s r known q took pulled
    → j'.events ≡ j.events ++ stamped j.clock ws
    → TellsNone ws
    → Goes sizes.ranks j.events ws j.clock s' r'
    → StaysTold s s' r r'
    → HasRequests sizes.ranks q' (j.events ++ stamped j.clock ws) r'
    → HasRoom j' s'
    → AreFields me sizes j' s' r' known q' took pulled
acts me sizes j j' s s' r r' known q q' took pulled ws a e none g k requests room = record {
  history = subst (λ (h : List Event). IsOf sizes.ranks h s' r' known) (sym e)
      (history-goes sizes.ranks j.events ws j.clock s s' r r' known none g a.history);
  peers = peers-stay me sizes s s' r r' known took pulled k a.peers;
  told = told-stays sizes.ranks s s' r r' known took pulled k a.told;
  requests = subst (λ (h : List Event). HasRequests sizes.ranks q' h r') (sym e) requests;
  room = room;
}

-- as many messages were sent as a history has
pub length-sent : (v : SendingView) (h : List Event) → AreSent v h → (to : ℕ)
    → length (departures_to v to) ≡ length (sends h to)
length-sent v h a to = sym (length-range_with_len 0 (length (departures_to v to)))
    ∙ sym (ap length (a.numbers to)) ∙ length-map (sends h to) (λ s. s.n)
