-- A send that was started.
use Rattle.std.proofs.Common.{◌≡◌, ℕ, ◌+◌, ◌<◌, ◌≤◌, Bool, true, false, List, [], ◌∷◌, ◌++◌, length, refl, ap, arith}
use Rattle.std.specs.Prelude.{if◌then◌else◌}
use Rattle.nm_types.specs.Sizes.{Sizes}
use Rattle.nm_types.specs.declared.messages.How.{How}
use Rattle.nm_types.specs.declared.scripts.Body.{Body}
use Rattle.nm_history.specs.declared.events.Event.{Event}
use Rattle.nm_history.specs.declared.events.Happened.TheVariants as event
use Rattle.nm_history.specs.Happens.{happened, is_send}
use Rattle.nm_history.specs.Clock.{stamped}
use Rattle.nm_history.specs.Known.{Known}
use Rattle.nm_history.specs.declared.events.Happened.{Happened}
use Rattle.nm_history.proofs.Basic.{self_true, or_true}
use Rattle.nm_history.proofs.Growing.{stamped-same}
use Rattle.nm_history.proofs.Sent.{happened-append}
use Rattle.nm_rank.specs.Journals.{JournalView}
use Rattle.nm_request.specs.declared.Req.{Req}
use Rattle.nm_request.specs.declared.Kind.TheVariants as kind
use Rattle.nm_request.specs.Requests.{Live, AddsRequest}
use Rattle.nm_rndv.specs.Offers.{Offering, destined, with_asked, with_destined}
use Rattle.nm_sending.specs.Departures.{SendingView}
use Rattle.nm_sending.specs.Sent.{Preserves}
use Rattle.nm_receiving.specs.Receipts.{ReceivingView}
use Rattle.nm_receiving.specs.Received.{AreReceived}
use Rattle.nm_rank.specs.Fields.{AreFields}
use Rattle.nm_rank.proofs.Goes.{acts, requests-more}
use Rattle.nm_rank.proofs.RequestLemmas.{adds-send}

-- a message more that was asked for changes nothing of the order of clearances
pub order-asked : (b : Bool) (v : Offering) (to n : ℕ) (body : Body)
    → (if b then with_destined v to (with_asked (destined v to) n body) else v).order ≡ v.order
order-asked true v to n body = refl
order-asked false v to n body = refl

-- what was just sent was sent
just-sent : (h : List Event) (c to n tag ctx len line : ℕ) (how : How)
    → happened (is_send to n) (h ++ stamped c (event.Send to n tag ctx len how line ∷ [])) ≡ true
just-sent h c to n tag ctx len line how =
    rw (
      happened-append (is_send to n) h (stamped c (event.Send to n tag ctx len how line ∷ [])),
      self_true to,
      self_true n,
    ) (or_true (happened (is_send to n) h))

-- the fields after a send was started
pub fields-send : (me : ℕ) (sizes : Sizes) (j j' : JournalView) (s s' : SendingView)
    (r : ReceivingView) (known : List Known) (q q' : Live) (took pulled : List ℕ)
    (to n tag ctx len line : ℕ) (how : How) (x : Req)
    → AreFields me sizes j s r known q took pulled → to < sizes.ranks
    → j'.events ≡ j.events ++ stamped j.clock (event.Send to n tag ctx len how line ∷ [])
    → j'.clock ≡ j.clock + 1 → j.spare ≤ j'.spare + 1 → s.staying + 2 ≤ j.spare
    → s'.staying ≡ s.staying + 1
    → Preserves s s' (event.Send to n tag ctx len how line ∷ [])
    → s'.outbox.me ≡ s.outbox.me → s'.outbox.popped ≡ s.outbox.popped
    → s'.offers.order ≡ s.offers.order
    → AreReceived r (j.events ++ stamped j.clock (event.Send to n tag ctx len how line ∷ []))
    → AddsRequest q q' x (kind.Send to n)
    → AreFields me sizes j' s' r known q' took pulled
fields-send me sizes j j' s s' r known q q' took pulled to n tag ctx len line how x
    a within e clock spare room staying kept own popped order received adds =
    let ws : List Happened = event.Send to n tag ctx len how line ∷ [] in
    let goes = kept j.events (stamped j.clock ws) (stamped-same j.clock ws) a.history.sent in
    acts me sizes j j' s s' r r known q q' took pulled ws a e (λ from. (refl, tt))
    (record { sent = goes.0; received = received; right = goes.1 sizes.ranks })
    (record {
      me = own;
      to = ap length popped;
      order = order;
      sizes = refl;
      drawn = refl;
      counts = λ from. refl;
      missing = λ from. refl;
    })
    (adds-send sizes.ranks q q' (j.events ++ stamped j.clock ws) r x to n within
    (just-sent j.events j.clock to n tag ctx len line how) adds
    (requests-more sizes.ranks q j.events (stamped j.clock ws) r r refl a.requests))
    (record { events = omega arith; few = omega (arith, a.room.few) })
