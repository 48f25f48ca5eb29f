-- A send that is recalled, the first time.
use Rattle.std.proofs.Common.{◌≡◌, ℕ, ◌+◌, ◌≤◌, Bool, true, false, List, [], ◌∷◌, ◌++◌, length, refl, sym, ap, subst}
use Rattle.std.proofs.Common.{append-nil, arith}
use Rattle.std.specs.Prelude.{if◌then◌else◌, None}
use Rattle.nm_types.specs.declared.packets.What.TheVariants as what
use Rattle.nm_history.specs.declared.events.Event.{Event}
use Rattle.nm_history.specs.declared.events.Happened.{Happened}
use Rattle.nm_history.specs.declared.events.Happened.TheVariants as event
use Rattle.nm_history.specs.Happens.{happened, is_recall}
use Rattle.nm_history.specs.Effects.{happenings}
use Rattle.nm_history.specs.Rules.{AreRight}
use Rattle.std.specs.Prelude.{slice_index_or}
use Rattle.std.specs.List.{AllByRecursion}
use Rattle.nm_types.specs.Sizes.{Sizes}
use Rattle.nm_history.specs.Sends.{Sent}
use Rattle.nm_history.specs.Agreement.{tells}
use Rattle.nm_history.specs.Clock.{stamped}
use Rattle.nm_history.specs.Known.{Known}
use Rattle.nm_history.proofs.Growing.{stamped-same}
use Rattle.nm_eager.specs.Streams.{Stream, missing, nothing_came}
use Rattle.nm_rank.specs.Journals.{JournalView}
use Rattle.nm_request.specs.declared.Kind.{Kind}
use Rattle.nm_request.specs.Requests.{Live, SameRequests}
use Rattle.nm_receiving.specs.Receipts.{ReceivingView, came_of}
use Rattle.nm_receiving.specs.Received.{AreReceived, is_of_receiving}
use Rattle.nm_rank.specs.Calls.{TakesNone, called_by}
use Rattle.nm_rank.specs.Fields.{AreFields, endings}
use Rattle.nm_rank.specs.Ranks.{seen}
use Rattle.nm_rank.proofs.Goes.{acts, requests-more}
use Rattle.nm_rank.proofs.LeaveLemmas.{StaysSent, StaysReceived}
use Rattle.nm_sending.specs.Outboxes.{OutboxView}
use Rattle.nm_request.specs.declared.Kind.TheVariants as kind
use Rattle.nm_sending.specs.Departures.{SendingView}
use Rattle.nm_sending.specs.Sent.{AreSent, Preserves, Puts, only_to}
use Rattle.nm_rndv.specs.Offers.{Offering, destined, with_destined, with_recall}
use Rattle.nm_rank.specs.Requests.{cancel_events, offers_cancelled, withdrawal_of}
use Rattle.nm_rank.proofs.PutLemmas.{puts-same}

-- no events
none-happened : (events : List Event) → happenings events ≡ [] → events ≡ []
none-happened [] e = refl
none-happened (x ∷ xs) e = cc

abbrev AreAfter : SendingView → List Event → List Event → Type 0
AreAfter v h events = AreSent v (h ++ events) × ((ranks : ℕ) → AreRight ranks h events)

-- a send that was recalled before goes on as it was
pub again : (s : SendingView) (to n : ℕ) (h events : List Event) → happened (is_recall to n) h ≡ true
    → happenings events ≡ cancel_events h (kind.Send to n) → AreSent s h
    → AreSent s (h ++ events) × ((ranks : ℕ) → AreRight ranks h events)
again s to n h events was e a =
    subst (AreAfter s h) (sym (none-happened events (rw was at e)))
    (subst (AreSent s) (sym (append-nil h)) a, λ ranks. tt)

-- one that was not is recalled now
pub first : (s s' : SendingView) (to n : ℕ) (h events : List Event) → happened (is_recall to n) h ≡ false
    → happenings events ≡ cancel_events h (kind.Send to n) → AreSent s h
    → Preserves s s' (event.Recall to n ∷ [])
    → AreSent s' (h ++ events) × ((ranks : ℕ) → AreRight ranks h events)
first s s' to n h events was e a kept = kept h events (rw was at e) a

pub first-puts : (h : List Event) (called to n stamp : ℕ) (o o' : OutboxView)
    → happened (is_recall to n) h ≡ false
    → Puts (only_to to called (what.Withdraw n)) None stamp o o'
    → Puts (withdrawal_of h called to n) None stamp o o'
first-puts h called to n stamp o o' was p = puts-same _ _ None stamp o o' (λ other. rw was refl) p

recall-tells : (b : Bool) (to n i : ℕ) → AllByRecursion (λ (w : Happened). tells i w ≡ false)
    (if b then [] else event.Recall to n ∷ [])
recall-tells true to n i = tt
recall-tells false to n i = (refl, tt)

cancel-tells : (h : List Event) (k : Kind) (i : ℕ)
    → AllByRecursion (λ (w : Happened). tells i w ≡ false) (cancel_events h k)
cancel-tells h (kind.Receive number) i = (refl, tt)
cancel-tells h (kind.Send to n) i = recall-tells (happened (is_recall to n) h) to n i

recall-none : (h : List Event) (to n c : ℕ) → AllByRecursion (λ (e : Event). is_of_receiving e.what ≡ false)
    (stamped c (cancel_events h (kind.Send to n)))
recall-none h to n c = by_answer (happened (is_recall to n) h) where
  by_answer : (b : Bool) → AllByRecursion (λ (e : Event). is_of_receiving e.what ≡ false)
      (stamped c (if b then [] else event.Recall to n ∷ []))
  by_answer true = tt
  by_answer false = (refl, tt)

recall-few : (h : List Event) (to n : ℕ) → length (cancel_events h (kind.Send to n)) ≤ 1
recall-few h to n = by_answer (happened (is_recall to n) h) where
  by_answer : (b : Bool) → length (if b then [] else event.Recall to n ∷ []) ≤ 1
  by_answer true = omega arith
  by_answer false = omega arith

-- the fields after a receive was cancelled
pub fields-cancel : (me : ℕ) (sizes : Sizes) (j j' : JournalView) (s : SendingView)
    (r r' : ReceivingView) (known : List Known) (q : Live) (took pulled : List ℕ) (number : ℕ)
    → AreFields me sizes j s r known q took pulled
    → j'.events ≡ j.events ++ stamped j.clock (cancel_events j.events (kind.Receive number))
    → j'.clock ≡ j.clock + 1 → j.spare ≤ j'.spare + 1 → s.staying + 2 ≤ j.spare
    → StaysSent
    → ((h events : List Event) → AreReceived r h → AreRight r.sizes.ranks [] h →
    happenings events ≡ cancel_events h (kind.Receive number) →
    AreReceived r' (h ++ events) × AreRight r.sizes.ranks h events)
    → r' ≡ record r { deeds = r'.deeds; receives = r'.receives } → endings r' ≡ endings r
    → AreFields me sizes j' s r' known q took pulled
fields-cancel me sizes j j' s r r' known q took pulled number a e c room two sent kept same ended =
    let ws : List Happened = cancel_events j.events (kind.Receive number) in
    let right = subst (λ (z : Sizes). AreRight z.ranks [] j.events) (sym a.peers.shape) a.history.right in
    let goes = kept j.events (stamped j.clock ws) a.history.received right (stamped-same j.clock ws) in
    let streams = ap (λ (u : ReceivingView). u.streams) same in
    acts me sizes j j' s s r r' known q q took pulled ws a e
    (cancel-tells j.events (kind.Receive number))
    (record {
      sent = sent s j.events (stamped j.clock ws) (refl, tt) a.history.sent;
      received = goes.0;
      right = subst (λ (z : Sizes). AreRight z.ranks j.events (stamped j.clock ws)) a.peers.shape goes.1;
    })
    (record {
      me = refl;
      to = refl;
      order = refl;
      sizes = ap (λ (u : ReceivingView). u.sizes) same;
      drawn = ap (λ (u : ReceivingView). u.drawn) same;
      counts = λ i. ap (λ (xs : List Stream). (slice_index_or xs i nothing_came).count) streams;
      missing = λ i. ap (λ (xs : List Stream). missing (slice_index_or xs i nothing_came)) streams;
    })
    (requests-more sizes.ranks q j.events (stamped j.clock ws) r r' ended a.requests)
    (record { events = omega arith; few = omega (arith, a.room.few) })

-- the fields after a send was recalled
pub fields-recall : (me : ℕ) (sizes : Sizes) (j j' : JournalView) (s s' : SendingView)
    (r : ReceivingView) (known : List Known) (q : Live) (took pulled : List ℕ) (to n : ℕ)
    → AreFields me sizes j s r known q took pulled
    → j'.events ≡ j.events ++ stamped j.clock (cancel_events j.events (kind.Send to n))
    → j'.clock ≡ j.clock + length (cancel_events j.events (kind.Send to n))
    → j.spare ≤ j'.spare + 1 → s.staying + 2 ≤ j.spare
    → StaysReceived
    → ((h events : List Event) → happenings events ≡ cancel_events h (kind.Send to n) → AreSent s h →
    AreSent s' (h ++ events) × ((ranks : ℕ) → AreRight ranks h events))
    → s'.staying ≡ s.staying → s'.offers.order ≡ s.offers.order
    → s'.outbox.me ≡ s.outbox.me → s'.outbox.popped ≡ s.outbox.popped
    → AreFields me sizes j' s' r known q took pulled
fields-recall me sizes j j' s s' r known q took pulled to n a e c room two received kept staying order own
    popped =
    let ws : List Happened = cancel_events j.events (kind.Send to n) in
    let goes = kept j.events (stamped j.clock ws) (stamped-same j.clock ws) a.history.sent in
    acts me sizes j j' s s' r r known q q took pulled ws a e (cancel-tells j.events (kind.Send to n))
    (record {
      sent = goes.0;
      received = received r j.events (stamped j.clock ws) (recall-none j.events to n j.clock)
          a.history.received;
      right = goes.1 sizes.ranks;
    })
    (record {
      me = own;
      to = ap length popped;
      order = order;
      sizes = refl;
      drawn = refl;
      counts = λ from. refl;
      missing = λ from. refl;
    })
    (requests-more sizes.ranks q j.events (stamped j.clock ws) r r refl a.requests)
    (record { events = omega arith; few = omega (arith, a.room.few) })

-- what a recall calls for
pub recall-calls : (bodies : Sent → List ℕ) (h : List Event) (c to n other : ℕ)
    → called_by bodies other h (stamped c (cancel_events h (kind.Send to n)))
    ≡ withdrawal_of h (c + 1) to n other
recall-calls bodies h c to n other = by_answer (happened (is_recall to n) h) where
  by_answer : (b : Bool) → called_by bodies other h (stamped c (if b then [] else event.Recall to n ∷ []))
      ≡ (if b then [] else only_to to (c + 1) (what.Withdraw n) other)
  by_answer true = refl
  by_answer false = append-nil (only_to to (c + 1) (what.Withdraw n) other)

recall-puts_by : (bodies : Sent → List ℕ) (h : List Event) (k to n clock : ℕ) (o o' : OutboxView) (b : Bool)
    → happened (is_recall to n) h ≡ b
    → clock ≡ k + length (cancel_events h (kind.Send to n))
    → ((called : ℕ) → called ≤ clock → Puts (withdrawal_of h called to n) None clock o o')
    → Puts (λ other. called_by bodies other h (stamped k (cancel_events h (kind.Send to n)))) None clock o o'
recall-puts_by bodies h k to n clock o o' true e c p =
    puts-same _ _ None clock o o' (λ other. rw e refl) (p 0 (omega arith))
recall-puts_by bodies h k to n clock o o' false e c p =
    puts-same _ _ None clock o o' (λ other. sym (recall-calls bodies h k to n other))
    (p (k + 1) (let d : clock ≡ k + 1 = rw e at c in omega arith))

-- what is put where a send is recalled
pub recall-puts : (bodies : Sent → List ℕ) (h : List Event) (k to n clock : ℕ) (o o' : OutboxView)
    → clock ≡ k + length (cancel_events h (kind.Send to n))
    → ((called : ℕ) → called ≤ clock → Puts (withdrawal_of h called to n) None clock o o')
    → Puts (λ other. called_by bodies other h (stamped k (cancel_events h (kind.Send to n)))) None clock o o'
recall-puts bodies h k to n clock o o' c p =
    recall-puts_by bodies h k to n clock o o' (happened (is_recall to n) h) refl c p

-- the messages that were sent by asking, where a send was recalled before
pub again-offers : (h : List Event) (to n : ℕ) (v : Offering) → happened (is_recall to n) h ≡ true
    → v ≡ offers_cancelled h (kind.Send to n) v
again-offers h to n v was = rw was refl

-- and where it is recalled now
pub first-offers : (h : List Event) (to n : ℕ) (v v' : Offering) → happened (is_recall to n) h ≡ false
    → v' ≡ with_destined v to (with_recall (destined v to) n)
    → v' ≡ offers_cancelled h (kind.Send to n) v
first-offers h to n v v' was e = rw was e

-- a cancel leaves the order of the clearances as it was
pub cancel-order : (h : List Event) (k : Kind) (v v' : Offering) → v' ≡ offers_cancelled h k v
    → v'.order ≡ v.order
cancel-order h (kind.Receive number) v v' e = ap (λ (o : Offering). o.order) e
cancel-order h (kind.Send to n) v v' e = by_answer (happened (is_recall to n) h) e where
  by_answer : (b : Bool)
      → v' ≡ (if b then v else with_destined v to (with_recall (destined v to) n))
      → v'.order ≡ v.order
  by_answer true e = ap (λ (o : Offering). o.order) e
  by_answer false e = ap (λ (o : Offering). o.order) e

-- no packet and no piece comes by a cancel, and no request is added or freed
pub cancel-takes : (me : ℕ) (sizes : Sizes) (j j' : JournalView) (s s' : SendingView) (r r' : ReceivingView)
    (known : List Known) (q q' : Live) (took pulled : List ℕ) (strays : ℕ)
    → r' ≡ record r { deeds = r'.deeds; receives = r'.receives } → SameRequests q q'
    → let v = seen me sizes j s r known q took pulled strays in
    let v' = seen me sizes j' s' r' known q' took pulled strays in
    TakesNone v v' × (v'.requests ≡ v.requests)
cancel-takes me sizes j j' s s' r r' known q q' took pulled strays same requests = (
  record {
    me = refl;
    sizes = refl;
    known = refl;
    took = refl;
    pulled = refl;
    drawn = ap (λ (u : ReceivingView). u.drawn) same;
    streams = ap (λ (u : ReceivingView). u.streams) same;
    bytes = λ a. ap (λ (u : ReceivingView). came_of u a) same;
    strays = refl;
  },
  ap (λ (x : Live). record x { spare = 0 }) requests.requests,
)
