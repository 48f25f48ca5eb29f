-- The steps of a packet that continues its stream.
use Rattle.std.proofs.Common.{◌≡◌, ℕ, ◌+◌, ◌-◌, ◌<◌, ◌≤◌, true, List, length, sym, ◌∙◌, ap, subst, arith}
use Rattle.std.specs.Prelude.{map, nat_lt}
use Rattle.std.proofs.lemmas.List.{length-map}
use Rattle.nm_types.proofs.TruthLemmas.{and_left}
use Rattle.nm_types.specs.Sizes.{Sizes}
use Rattle.nm_types.specs.declared.limits.TheConstants.{MAX_PACKETS, MAX_STAMP}
use Rattle.nm_types.specs.declared.packets.Packet.{Packet}
use Rattle.nm_history.specs.declared.events.Event.{Event}
use Rattle.nm_history.specs.Continues.{continues, WORN_STAMP}
use Rattle.nm_history.specs.Known.{Known}
use Rattle.nm_rank.specs.Journals.{JournalView}
use Rattle.nm_sending.specs.Outboxes.{OutboxView, put_to}
use Rattle.nm_request.specs.Requests.{Live}
use Rattle.nm_receiving.specs.StreamViews.{Told}
use Rattle.nm_sending.specs.Departures.{SendingView}
use Rattle.nm_sending.specs.Sent.{AreSent}
use Rattle.nm_receiving.specs.Receipts.{ReceivingView}
use Rattle.nm_rank.specs.Fields.{AreFields}
use Rattle.nm_rank.specs.Ranks.{IsFresh, known_from, count_of, seen}
use Rattle.nm_rank.specs.Takes.{MayBeAccepted}
use Rattle.nm_rank.proofs.Goes.{sent-outbox}
use Rattle.nm_rank.proofs.TakeLemmas.{known_of}

pub may-be-accepted : (me : ℕ) (sizes : Sizes) (j j' : JournalView) (s : SendingView) (r : ReceivingView)
    (known : List Known) (q : Live) (took pulled : List ℕ) (p : Packet)
    → AreFields me sizes j' s r known q took pulled → j'.events ≡ j.events
    → p.from < sizes.ranks → p.seq ≡ count_of took p.from
    → continues sizes.eager (known_from known p.from) j.events p ≡ true
    → MayBeAccepted s r p
may-be-accepted me sizes j j' s r known q took pulled p a same within number cont = record {
  history = j'.events;
  known = known_from known p.from;
  sent = a.history.sent;
  received = a.history.received;
  agrees = a.history.agrees p.from within;
  tells = record {
    told = record { count = a.told.counts p.from within; lacks = a.told.missing p.from within };
    cleared = a.told.cleared p.from within;
  };
  continued = rw (a.peers.shape, same) cont;
  sender = rw (a.peers.shape) within;
  receiver = rw (a.peers.to) within;
  few = let few = a.told.few p.from within in omega (arith, p.seq_in_range);
}

-- there is a stream for each rank
pub streams-low : (me : ℕ) (sizes : Sizes) (j : JournalView) (s : SendingView) (r : ReceivingView)
    (streams : List Told) (q : Live) (took pulled : List ℕ) (from : ℕ)
    → AreFields me sizes j s r (map known_of streams) q took pulled
    → from < sizes.ranks → from < length streams
streams-low me sizes j s r streams q took pulled from a within =
    let n = a.peers.streams in let m = length-map streams known_of in omega arith

-- as many packets were put as before
pub few-put : (me : ℕ) (sizes : Sizes) (j : JournalView) (s s' s'' : SendingView) (r : ReceivingView)
    (known : List Known) (q : Live) (took pulled : List ℕ) (strays to : ℕ)
    → s' ≡ record s { outbox = record s.outbox { spare = s'.outbox.spare } }
    → s''.outbox ≡ s'.outbox
    → IsFresh (seen me sizes j s r known q took pulled strays)
    → to < sizes.ranks → put_to s''.outbox to < MAX_PACKETS
few-put me sizes j s s' s'' r known q took pulled strays to es eo fresh within =
    let few : put_to s.outbox to < MAX_PACKETS - 32 = (fresh.messages to within).1 in
    let same : put_to s''.outbox to ≡ put_to s.outbox to =
    ap (λ (o : OutboxView). put_to o to) eo ∙ ap (λ (u : SendingView). put_to u.outbox to) es in
    omega arith

-- what was sent is the same with more room
pub sent-room : (s s' : SendingView) (h : List Event)
    → s' ≡ record s { outbox = record s.outbox { spare = s'.outbox.spare } }
    → AreSent s h → AreSent s' h
sent-room s s' h es sent = subst (λ (u : SendingView). AreSent u h) (sym es)
    (sent-outbox s (record s.outbox { spare = s'.outbox.spare }) h sent)

low : (a b : ℕ) → nat_lt a b ≡ true → a < b
low a b e = grind arith

-- a packet that continues its stream leaves room for the stamps of what it makes happen
pub stamp-early : (eager : ℕ) (known : Known) (h : List Event) (p : Packet)
    → continues eager known h p ≡ true → p.stamp + 2 ≤ MAX_STAMP
stamp-early eager known h p cont =
    let early = low p.stamp WORN_STAMP (and_left (nat_lt p.stamp WORN_STAMP) _ cont) in omega (arith, early)
