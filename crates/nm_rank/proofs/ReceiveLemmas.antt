-- A receive that was started.
use Rattle.std.proofs.Common.{◌≡◌, ℕ, ◌+◌, ◌≤◌, Bool, true, false, List, [], ◌∷◌, ◌++◌, length, refl, sym, ◌∙◌, ap}
use Rattle.std.proofs.Common.{subst, append_assoc, arith}
use Rattle.std.specs.Prelude.{map, Option, Some, None}
use Rattle.std.specs.List.{AllByRecursion}
use Rattle.nm_types.specs.Sizes.{Sizes}
use Rattle.nm_types.specs.declared.messages.Arrival.{Arrival}
use Rattle.nm_history.specs.declared.events.Event.{Event}
use Rattle.nm_history.specs.declared.events.Happened.{Happened}
use Rattle.nm_history.specs.Agreement.{tells}
use Rattle.nm_history.specs.Clock.{stamped}
use Rattle.nm_history.specs.Effects.{whole_if}
use Rattle.nm_history.specs.Known.{Known}
use Rattle.nm_history.specs.Rules.{AreRight}
use Rattle.nm_history.proofs.Growing.{stamped-same}
use Rattle.std.proofs.lemmas.List.{length-map}
use Rattle.std.specs.Prelude.{slice_index_or}
use Rattle.nm_eager.specs.Streams.{Stream, missing, nothing_came}
use Rattle.nm_rank.specs.Journals.{JournalView}
use Rattle.nm_request.specs.declared.Req.{Req}
use Rattle.nm_request.specs.declared.Kind.TheVariants as kind
use Rattle.nm_request.specs.Requests.{Live, AddsRequest}
use Rattle.nm_sending.specs.Departures.{SendingView}
use Rattle.nm_sending.specs.Sent.{AreSent, is_of_sending}
use Rattle.nm_receiving.specs.declared.receipts.Receive.{Receive}
use Rattle.nm_receiving.specs.Receipts.{ReceivingView, is_empty_ask, taken_events}
use Rattle.nm_receiving.specs.Received.{Preserves}
use Rattle.nm_rank.specs.Fields.{AreFields, endings}
use Rattle.nm_rank.proofs.Goes.{acts, requests-more, sent-outbox}
use Rattle.nm_rank.proofs.RequestLemmas.{adds-receive}

-- a message that is here whole is no event of a rank's own messages, and no packet tells of it
pub whole-none : (b : Bool) (from n c : ℕ)
    → AllByRecursion (λ (e : Event). is_of_sending e.what ≡ false) (stamped c (whole_if b from n))
whole-none true from n c = (refl, tt)
whole-none false from n c = tt

pub taken-none : (t : Option Arrival) (c : ℕ)
    → AllByRecursion (λ (e : Event). is_of_sending e.what ≡ false) (stamped c (taken_events t))
taken-none None c = tt
taken-none (Some a) c = whole-none (is_empty_ask a) a.env.from a.n c

pub whole-tells : (b : Bool) (from n i : ℕ)
    → AllByRecursion (λ (w : Happened). tells i w ≡ false) (whole_if b from n)
whole-tells true from n i = (refl, tt)
whole-tells false from n i = tt

pub taken-tells : (t : Option Arrival) (i : ℕ)
    → AllByRecursion (λ (w : Happened). tells i w ≡ false) (taken_events t)
taken-tells None i = tt
taken-tells (Some a) i = whole-tells (is_empty_ask a) a.env.from a.n i

pub whole-few : (b : Bool) (from n : ℕ) → length (whole_if b from n) ≤ 1
whole-few true from n = omega arith
whole-few false from n = omega arith

pub taken-few : (t : Option Arrival) → length (taken_events t) ≤ 1
taken-few None = omega arith
taken-few (Some a) = whole-few (is_empty_ask a) a.env.from a.n

-- an event and those that follow it
pub then-events : (j j' j'' : JournalView) (w : Happened) (ws : List Happened)
    → j'.events ≡ j.events ++ stamped j.clock (w ∷ []) → j'.clock ≡ j.clock + 1
    → j''.events ≡ j'.events ++ stamped j'.clock ws
    → j''.events ≡ j.events ++ stamped j.clock (w ∷ ws)
then-events j j' j'' w ws e c f =
    (rw (e, c) at f) ∙ append_assoc j.events (stamped j.clock (w ∷ [])) (stamped (j.clock + 1) ws)

map_end : (xs : List Receive) (x : Receive)
    → map (λ (y : Receive). y.ended) (xs ++ x ∷ []) ≡ map (λ (y : Receive). y.ended) xs ++ x.ended ∷ []
map_end [] x = refl
map_end (y ∷ xs) x = ap (λ (k : List Bool). y.ended ∷ k) (map_end xs x)

endings-more : (r r' : ReceivingView) (x : Receive) → r'.receives ≡ r.receives ++ x ∷ []
    → x.ended ≡ false → endings r' ≡ endings r ++ false ∷ []
endings-more r r' x e f = ap (map (λ (y : Receive). y.ended)) e ∙ map_end r.receives x
    ∙ ap (λ (b : Bool). endings r ++ b ∷ []) f

-- the fields after a receive was started
pub fields-receive : (me : ℕ) (sizes : Sizes) (j j' j'' : JournalView) (s s' : SendingView)
    (r r' : ReceivingView) (known : List Known) (q q' : Live) (took pulled : List ℕ)
    (w : Happened) (t : Option Arrival) (number : ℕ) (v : Receive) (x : Req)
    → AreFields me sizes j s r known q took pulled
    → j'.events ≡ j.events ++ stamped j.clock (w ∷ []) → j'.clock ≡ j.clock + 1
    → j.spare ≤ j'.spare + 1
    → j''.events ≡ j'.events ++ stamped j'.clock (taken_events t)
    → j''.clock ≡ j'.clock + length (taken_events t)
    → j'.spare ≤ j''.spare + length (taken_events t)
    → s.staying + 2 ≤ j.spare
    → s' ≡ record s { outbox = s'.outbox }
    → s'.outbox.me ≡ s.outbox.me → s'.outbox.popped ≡ s.outbox.popped
    → ((i : ℕ) → tells i w ≡ false) → is_of_sending w ≡ false
    → ((v : SendingView) (h events : List Event)
    → AllByRecursion (λ e. is_of_sending e.what ≡ false) events → AreSent v h → AreSent v (h ++ events))
    → Preserves r r' (w ∷ taken_events t)
    → r'.sizes ≡ r.sizes → r'.streams ≡ r.streams → r'.drawn ≡ r.drawn
    → r'.receives ≡ r.receives ++ v ∷ [] → v.ended ≡ false → number ≡ length r.receives
    → AddsRequest q q' x (kind.Receive number)
    → AreFields me sizes j'' s' r' known q' took pulled
fields-receive me sizes j j' j'' s s' r r' known q q' took pulled w t number v x
    a e c m e' c' m' room same own popped none not_sending stays kept sz st dr receives ended next adds =
    let ws : List Happened = w ∷ taken_events t in
    let events = then-events j j' j'' w (taken_events t) e c e' in
    let right = subst (λ (n : Sizes). AreRight n.ranks [] j.events) (sym a.peers.shape) a.history.right in
    let goes = kept j.events (stamped j.clock ws) (stamped-same j.clock ws) a.history.received right in
    let sent = stays s j.events (stamped j.clock ws) (not_sending, taken-none t (j.clock + 1))
    a.history.sent in
    let more = endings-more r r' v receives ended in
    let few = taken-few t in
    let staying : s'.staying ≡ s.staying = ap (λ (u : SendingView). u.staying) same in
    acts me sizes j j'' s s' r r' known q q' took pulled ws a events
    (λ i. (none i, taken-tells t i))
    (record {
      sent = subst (λ (u : SendingView). AreSent u (j.events ++ stamped j.clock ws)) (sym same)
          (sent-outbox s s'.outbox (j.events ++ stamped j.clock ws) sent);
      received = goes.0;
      right = subst (λ (n : Sizes). AreRight n.ranks j.events (stamped j.clock ws)) a.peers.shape goes.1;
    })
    (record {
      me = own;
      to = ap length popped;
      order = ap (λ (u : SendingView). u.offers.order) same;
      sizes = sz;
      drawn = dr;
      counts = λ from. ap (λ (xs : List Stream). (slice_index_or xs from nothing_came).count) st;
      missing = λ from. ap (λ (xs : List Stream). missing (slice_index_or xs from nothing_came)) st;
    })
    (adds-receive sizes.ranks q q' (j.events ++ stamped j.clock ws) r r' x number
    (next ∙ sym (length-map r.receives (λ (y : Receive). y.ended))) more adds
    (requests-more sizes.ranks q j.events (stamped j.clock ws) r r refl a.requests))
    (record { events = omega arith; few = omega (arith, a.room.few) })
