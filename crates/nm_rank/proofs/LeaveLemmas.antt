-- What leaves a rank, what it notes, and what it claims.
use Rattle.std.proofs.Common.{◌≡◌, ℕ, ◌+◌, ◌<◌, ◌≤◌, true, false, List, [], ◌∷◌, ◌++◌, length, refl, sym, ◌∙◌, ap}
use Rattle.std.proofs.Common.{subst, length-set, arith}
use Rattle.std.specs.Prelude.{Option, Some, None, IfSome, IsSome, slice_set, slice_index_or}
use Rattle.std.specs.List.{AllByRecursion, slice_get}
use Rattle.std.specs.Option.{option_and_then}
use Rattle.nm_types.specs.Sizes.{Sizes}
use Rattle.nm_types.specs.declared.answers.Answer.{Answer}
use Rattle.nm_history.specs.declared.events.Event.{Event}
use Rattle.nm_history.specs.declared.events.Happened.{Happened}
use Rattle.nm_history.specs.declared.events.Happened.TheVariants as event
use Rattle.nm_history.specs.Agreement.{tells}
use Rattle.nm_history.specs.Clock.{stamped}
use Rattle.nm_history.specs.Known.{Known}
use Rattle.nm_history.specs.Rules.{AreRight}
use Rattle.nm_history.proofs.Growing.{stamped-same}
use Rattle.nm_eager.specs.Streams.{Stream, missing, nothing_came}
use Rattle.nm_rank.specs.Journals.{JournalView}
use Rattle.nm_sending.specs.Letters.{Letter}
use Rattle.nm_sending.specs.Outboxes.{OutboxView, popped_to}
use Rattle.nm_request.specs.Requests.{Live}
use Rattle.nm_rndv.specs.Offers.{Offering, first_leaving, next_offered, with_popped}
use Rattle.nm_sending.specs.Departures.{SendingView}
use Rattle.nm_sending.specs.Sent.{AreSent, Preserves, outs, is_of_sending}
use Rattle.nm_receiving.specs.Receipts.{ReceivingView}
use Rattle.nm_receiving.specs.Received as received
use Rattle.nm_receiving.specs.Received.{AreReceived, is_of_receiving}
use Rattle.nm_rank.specs.Fields.{AreFields, endings}
use Rattle.nm_rank.proofs.Goes.{acts, requests-more}

abbrev pub StaysReceived : Type 0
StaysReceived = (v : ReceivingView) (h events : List Event)
    → AllByRecursion (λ (e : Event). is_of_receiving e.what ≡ false) events → AreReceived v h
    → AreReceived v (h ++ events)

abbrev pub StaysSent : Type 0
StaysSent = (v : SendingView) (h events : List Event)
    → AllByRecursion (λ (e : Event). is_of_sending e.what ≡ false) events → AreSent v h
    → AreSent v (h ++ events)

outs-tell : (m : Option (ℕ × ℕ)) (i : ℕ)
    → AllByRecursion (λ (w : Happened). tells i w ≡ false) (outs m)
outs-tell None i = tt
outs-tell (Some m) i = (refl, tt)

outs-none : (m : Option (ℕ × ℕ)) (c : ℕ)
    → AllByRecursion (λ (e : Event). is_of_receiving e.what ≡ false) (stamped c (outs m))
outs-none None c = tt
outs-none (Some m) c = (refl, tt)

-- the fields after a packet or a piece left
pub fields-leave : (me : ℕ) (sizes : Sizes) (j j' : JournalView) (s s' : SendingView)
    (r : ReceivingView) (known : List Known) (q : Live) (took pulled : List ℕ) (m : Option (ℕ × ℕ))
    → AreFields me sizes j s r known q took pulled
    → j'.events ≡ j.events ++ stamped j.clock (outs m)
    → j.clock ≤ j'.clock → j.spare ≤ j'.spare + length (outs m)
    → s.staying ≡ s'.staying + length (outs m)
    → Preserves s s' (outs m)
    → s'.outbox.me ≡ s.outbox.me → length s'.outbox.popped ≡ length s.outbox.popped
    → s'.offers.order ≡ s.offers.order
    → StaysReceived
    → AreFields me sizes j' s' r known q took pulled
fields-leave me sizes j j' s s' r known q took pulled m a e c room staying kept own popped order stays =
    let ws : List Happened = outs m in
    let goes = kept j.events (stamped j.clock ws) (stamped-same j.clock ws) a.history.sent in
    acts me sizes j j' s s' r r known q q took pulled ws a e (outs-tell m)
    (record {
      sent = goes.0;
      received = stays r j.events (stamped j.clock ws) (outs-none m j.clock) a.history.received;
      right = goes.1 sizes.ranks;
    })
    (record {
      me = own;
      to = popped;
      order = order;
      sizes = refl;
      drawn = refl;
      counts = λ from. refl;
      missing = λ from. refl;
    })
    (requests-more sizes.ranks q j.events (stamped j.clock ws) r r refl a.requests)
    (record { events = omega (arith, a.room.events); few = omega (arith, a.room.few) })

-- by the first of some letters
by_first : {A : Type 0} (P : Letter → Type 0) (ls : List Letter) → 0 < length ls
    → IfSome (slice_get ls 0) P → ((l : Letter) → P l → A) → A
by_first P [] low p f = absurd (omega arith)
by_first P (l ∷ ls) low p f = f l p

-- what a letter less leaves as it was
pub popped-same : (o o' : OutboxView) → 0 < length o.letters
    → IfSome (slice_get o.letters 0) (λ letter. (o.letters ≡ letter ∷ o'.letters)
    × (o'
    ≡ record o {
      letters = o'.letters;
      popped = slice_set o.popped letter.to (popped_to o letter.to + 1);
      spare = o'.spare;
    }))
    → (o'.me ≡ o.me) × (length o'.popped ≡ length o.popped)
popped-same o o' low p = by_first (λ letter. (o.letters ≡ letter ∷ o'.letters)
    × (o'
    ≡ record o {
      letters = o'.letters;
      popped = slice_set o.popped letter.to (popped_to o letter.to + 1);
      spare = o'.spare;
    })) o.letters low p
    (λ l x. (
      ap (λ (u : OutboxView). u.me) x.1,
      ap (λ (u : OutboxView). length u.popped) x.1
          ∙ length-set o.popped l.to (popped_to o l.to + 1),
    ))

unlike : false ≡ true → ⊥
unlike e = cc

by_some : {A B : Type 0} (f : ℕ × ℕ → Option B) (P : ℕ × ℕ → Type 0) (m : Option (ℕ × ℕ))
    → IsSome (option_and_then f m) → IfSome m P → ((x : ℕ × ℕ) → P x → A) → A
by_some f P None low p g = absurd (unlike low)
by_some f P (Some x) low p g = g x p

-- a piece less changes nothing of the order of clearances
pub order-popped : (v v' : Offering) → IsSome (next_offered v)
    → IfSome (first_leaving v) (λ m. v' ≡ with_popped v m) → v'.order ≡ v.order
order-popped v v' low p = by_some _ (λ m. v' ≡ with_popped v m) (first_leaving v) low p
    (λ m x. ap (λ (u : Offering). u.order) x)

-- the fields after a command's answer
pub fields-ran : (me : ℕ) (sizes : Sizes) (j j' : JournalView) (s : SendingView)
    (r : ReceivingView) (known : List Known) (q : Live) (took pulled : List ℕ) (line : ℕ) (answer : Answer)
    → AreFields me sizes j s r known q took pulled
    → j'.events ≡ j.events ++ stamped j.clock (event.Ran line answer ∷ [])
    → j'.clock ≡ j.clock + 1 → j.spare ≤ j'.spare + 1 → s.staying + 2 ≤ j.spare
    → StaysSent → StaysReceived
    → AreFields me sizes j' s r known q took pulled
fields-ran me sizes j j' s r known q took pulled line answer a e c room two sent stays =
    let ws : List Happened = event.Ran line answer ∷ [] in
    acts me sizes j j' s s r r known q q took pulled ws a e (λ i. (refl, tt))
    (record {
      sent = sent s j.events (stamped j.clock ws) (refl, tt) a.history.sent;
      received = stays r j.events (stamped j.clock ws) (refl, tt) a.history.received;
      right = (record { numbers = tt; matches = tt; claims = tt; cancels = tt; wholes = tt; ends = tt }, tt);
    })
    (record {
      me = refl;
      to = refl;
      order = refl;
      sizes = refl;
      drawn = refl;
      counts = λ from. refl;
      missing = λ from. refl;
    })
    (requests-more sizes.ranks q j.events (stamped j.clock ws) r r refl a.requests)
    (record { events = omega arith; few = omega (arith, a.room.few) })

-- the fields after a claim
pub fields-claim : (me : ℕ) (sizes : Sizes) (j j' : JournalView) (s : SendingView)
    (r r' : ReceivingView) (known : List Known) (q : Live) (took pulled : List ℕ) (from n line : ℕ)
    → AreFields me sizes j s r known q took pulled
    → j'.events ≡ j.events ++ stamped j.clock (event.Claim from n line ∷ [])
    → j'.clock ≡ j.clock + 1 → j.spare ≤ j'.spare + 1 → s.staying + 2 ≤ j.spare
    → StaysSent → received.Preserves r r' (event.Claim from n line ∷ [])
    → r' ≡ record r { deeds = r'.deeds }
    → AreFields me sizes j' s r' known q took pulled
fields-claim me sizes j j' s r r' known q took pulled from n line a e c room two sent kept same =
    let ws : List Happened = event.Claim from n line ∷ [] in
    let right = subst (λ (z : Sizes). AreRight z.ranks [] j.events) (sym a.peers.shape) a.history.right in
    let goes = kept j.events (stamped j.clock ws) (stamped-same j.clock ws) a.history.received right in
    let streams = ap (λ (u : ReceivingView). u.streams) same in
    acts me sizes j j' s s r r' known q q took pulled ws a e (λ i. (refl, tt))
    (record {
      sent = sent s j.events (stamped j.clock ws) (refl, tt) a.history.sent;
      received = goes.0;
      right = subst (λ (z : Sizes). AreRight z.ranks j.events (stamped j.clock ws)) a.peers.shape goes.1;
    })
    (record {
      me = refl;
      to = refl;
      order = refl;
      sizes = ap (λ (u : ReceivingView). u.sizes) same;
      drawn = ap (λ (u : ReceivingView). u.drawn) same;
      counts = λ i. ap (λ (xs : List Stream). (slice_index_or xs i nothing_came).count) streams;
      missing = λ i. ap (λ (xs : List Stream). missing (slice_index_or xs i nothing_came)) streams;
    })
    (requests-more sizes.ranks q j.events (stamped j.clock ws) r r'
    (ap (λ (u : ReceivingView). endings u) same) a.requests)
    (record { events = omega arith; few = omega (arith, a.room.few) })
