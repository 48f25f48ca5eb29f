-- What a message that comes, goes on or is whole keeps.
use Rattle.std.proofs.Common.{◌≡◌, ℕ, ◌<◌, ◌==◌, Bool, true, false, ◌&&◌, cond, Option, Some, None, List, [], ◌∷◌, ◌++◌}
use Rattle.std.proofs.Common.{length, is_some, refl, sym, ◌∙◌, ap, subst, append-nil, append_assoc}
use Rattle.std.specs.Option.{option_map, option_to_list}
use Rattle.std.proofs.lemmas.Bool.{true≢false}
use Rattle.nm_types.specs.declared.messages.Arrival.{Arrival}
use Rattle.nm_types.specs.declared.messages.Post as post
use Rattle.nm_history.specs.declared.events.Event.{Event}
use Rattle.nm_history.specs.declared.events.Happened.TheVariants.{Arrive, Whole}
use Rattle.nm_history.specs.declared.plain.Pair.{Pair}
use Rattle.nm_history.specs.Completion.{is_taken}
use Rattle.nm_history.specs.Happens.{at, happened, is_arrival, is_whole}
use Rattle.nm_history.specs.Matching.{first_receive, matched_pairs, pair_of}
use Rattle.nm_history.specs.RankRun.{is_asking}
use Rattle.nm_history.specs.Sends.{is_ask, message_of}
use Rattle.nm_history.proofs.MatchingLemmas.{matched_pairs-push, matched_pairs-push_other}
use Rattle.nm_history.specs.Effects.{happenings, whole_if}
use Rattle.nm_history.specs.Rules.{AreRight, IsRightAt}
use Rattle.nm_eager.specs.Streams.{Stream}
use Rattle.nm_receiving.specs.declared.receipts.Receipt.{Receipt}
use Rattle.nm_receiving.specs.declared.receipts.Receive.{Receive}
use Rattle.nm_receiving.specs.Receipts.{ReceivingView, is_empty_ask, receipt_of, receipts_from}
use Rattle.nm_receiving.specs.Received.{AreReceived}
use Rattle.nm_receiving.specs.Steps.{rows_with_whole}
use Rattle.nm_receiving.proofs.Coming.{HasCap, came, came_here, newcomer, stood-came}
use Rattle.nm_receiving.proofs.Events.{right-one, right-two, unstamp-none, unstamp-one, unstamp-two}
use Rattle.nm_receiving.proofs.Facts.{arrived_from, asking_is, empty_more, right_named}
use Rattle.nm_receiving.proofs.Grow.{happened_later, happened_now, happened_still, taken_now}
use Rattle.nm_receiving.proofs.Marking.{marked, stood-marked}
use Rattle.nm_receiving.proofs.Stood.{Stood, is_whole_at, received_of, stood_of}
use Rattle.nm_receiving.proofs.Keeping.{right-whole}
use Rattle.std.proofs.lemmas.Bool.{false_from_ne_true}
use Rattle.std.proofs.lemmas.Option.{slice_get_past}
use Rattle.std.proofs.Common.{arith}
use Rattle.nm_types.proofs.NumberLemmas.{eq_true}

-- what came of eager messages plays no part
pub streams_apart : (v : ReceivingView) (streams : List Stream) (h : List Event) → AreReceived v h
    → AreReceived (record v { streams = streams }) h
streams_apart v streams h all = record {
  stands = all.stands;
  arrived = all.arrived;
  messages = all.messages;
  whole = all.whole;
  count = all.count;
  pairs = all.pairs;
  cancelled = all.cancelled;
  due = all.due;
  empty = all.empty;
}

-- message n is whole now, if this is true
abbrev pub marked_if : Bool → ReceivingView → ℕ → ℕ → ReceivingView
marked_if b v from n = record v { receipts = cond b (rows_with_whole v.receipts from n) v.receipts }

-- a message that came, and was not whole
pub record MayEnd (v : ReceivingView) (h : List Event) (from n : ℕ) (r : Receipt) : Type 0 where
  pub here : receipt_of v from n ≡ Some r
  pub whole : r.whole ≡ false
  pub taken : is_ask r.arrival.env.how ≡ true → is_taken h from n ≡ true

pub keeps-marked : (v : ReceivingView) (from n : ℕ) (b : Bool) (h events : List Event) →
    happenings events ≡ whole_if b from n
    → AreReceived v h → AreRight v.sizes.ranks [] h → (b ≡ true → (r : Receipt) × MayEnd v h from n r)
    → AreReceived (marked_if b v from n) (h ++ events) × AreRight v.sizes.ranks h events
keeps-marked v from n false h events happens received right may =
    unstamp-none (λ events. AreReceived v (h ++ events) × AreRight v.sizes.ranks h events) events
    (subst (λ (k : List Event). AreReceived v k) (sym (append-nil h)) received, tt) happens
keeps-marked v from n true h events happens received right may =
    unstamp-one (λ events. AreReceived (marked v from n) (h ++ events) × AreRight v.sizes.ranks h events) events
    (Whole from n)
    (λ s.
    let m = may refl in
    let e : Event = at s (Whole from n) in
    let r : Receipt = m.0 in
    let there : message_of h from n ≡ Some r.arrival =
    sym (received.messages from n) ∙ ap (λ (o : Option Receipt). option_map (λ m. m.arrival) o) m.1.here in
    let not_yet : happened (is_whole from n) h ≡ false = sym (received.whole from n) ∙ ap is_whole_at m.1.here
    ∙ m.1.whole in (
      received_of (marked v from n) (h ++ e ∷ []) (stood-marked v h (stood_of v h received) s from n r m.1.here)
          (empty_more h (h ++ e ∷ []) None (matched_pairs-push_other h e refl ∙ sym (append-nil (matched_pairs h)))
          (λ i k. happened_later (is_whole i k) h (e ∷ [])) (λ q is. absurd (let h' : ⊥ = cc in h')) received.empty),
      right-one v.sizes.ranks h e
          (right-whole v.sizes.ranks h from n not_yet (arrived_from h from n r.arrival there)
          (λ asks. let asked = asking_is v.sizes.ranks h from n (right_named v.sizes.ranks h right) asks in
          let same : asked.0 ≡ r.arrival = let both = asked.1 in cc in
          m.1.taken (ap (λ (x : Arrival). is_ask x.env.how) (sym same) ∙ asked.2))),
    ))
    happens

-- the message is the next one of a rank of the run
pub record IsNext (v : ReceivingView) (a : Arrival) : Type 0 where
  pub sender : a.env.from < v.sizes.ranks
  pub receipts : a.env.from < length v.receipts
  pub grants : a.env.from < length v.grants
  pub next : a.n ≡ length (receipts_from v a.env.from)

-- it is here at once, if this is true
pub record IsAtOnce (a : Arrival) (o : Option post.Post) (b : Bool) : Type 0 where
  pub empty : is_empty_ask a ≡ true → is_some o ≡ true → b ≡ true
  pub asked : b ≡ true → is_ask a.env.how ≡ true → is_some o ≡ true

module _ (v : ReceivingView) (streams : List Stream) (a : Arrival) (o : Option post.Post) (b : Bool) (next : IsNext v a)
    (at_once : IsAtOnce a o b) (caps : (p : post.Post) → o ≡ Some p → (r : Receive) × HasCap v.receives p r)
    (h : List Event) (received : AreReceived v h) (right : AreRight v.sizes.ranks [] h)
    (oldest : first_receive h (matched_pairs h) a.env ≡ o) where
  abbrev from : ℕ
  from = a.env.from

  abbrev n : ℕ
  n = a.n

  abbrev v1 : ReceivingView
  v1 = came v streams a (option_map (λ p. p.number) o)

  abbrev e : ℕ → Event
  e s = at s (Arrive a)

  stood1 : (s : ℕ) → Stood v1 (h ++ e s ∷ [])
  stood1 s = stood-came v h (stood_of v h received) streams s a next.receipts next.next next.grants o oldest caps

  grown : (s : ℕ) → matched_pairs (h ++ e s ∷ []) ≡ matched_pairs h ++ option_to_list (option_map (λ p. pair_of p a) o)
  grown s = matched_pairs-push h (e s)
      ∙ ap (λ (o : Option post.Post). matched_pairs h ++ option_to_list (option_map (λ p. pair_of p a) o)) oldest

  right1 : (s : ℕ) → IsRightAt v.sizes.ranks h (Arrive a)
  right1 s = record {
    numbers = (next.sender, next.next ∙ received.arrived from);
    matches = tt;
    claims = tt;
    cancels = tt;
    wholes = tt;
    ends = tt;
  }

  of_a : (q : Pair) → option_map (λ p. pair_of p a) o ≡ Some q → (q.arrival ≡ a) × (is_some o ≡ true)
  of_a = by o
    where
      by : (o : Option post.Post) → (q : Pair) → option_map (λ p. pair_of p a) o ≡ Some q →
          (q.arrival ≡ a) × (is_some o ≡ true)
      by None q is = absurd (let h' : ⊥ = cc in h')
      by (Some p) q is = let same : pair_of p a ≡ q = cc in (ap (λ (x : Pair). x.arrival) (sym same), refl)

  begins : b ≡ false → (s : ℕ) → AreReceived v1 (h ++ e s ∷ []) × AreRight v.sizes.ranks h (e s ∷ [])
  begins later s = (
    received_of v1 (h ++ e s ∷ []) (stood1 s)
        (empty_more h (h ++ e s ∷ []) (option_map (λ p. pair_of p a) o) (grown s)
        (λ i k. happened_later (is_whole i k) h (e s ∷ []))
        (λ q is empty. let of = of_a q is in
        absurd (true≢false (sym (at_once.empty (ap is_empty_ask (sym of.0) ∙ empty) of.1) ∙ later))) received.empty),
    right-one v.sizes.ranks h (e s) (right1 s),
  )

  was_none : receipt_of v from n ≡ None
  was_none = slice_get_past (receipts_from v from) n (omega (arith, next.next))

  not_here : message_of h from n ≡ None
  not_here = sym (received.messages from n) ∙ ap (λ (o : Option Receipt). option_map (λ m. m.arrival) o) was_none

  not_asking : happened (is_asking from n) h ≡ false
  not_asking = false_from_ne_true (happened (is_asking from n) h)
      (λ asks. let asked = asking_is v.sizes.ranks h from n (right_named v.sizes.ranks h right) asks in
      let there = asked.1 in let h' : ⊥ = cc (not_here, there) in h')

  asking_now : (s : ℕ) → happened (is_asking from n) (h ++ e s ∷ []) ≡ true → is_ask a.env.how ≡ true
  asking_now s asks = by (is_ask a.env.how) refl
    where
      by : (c : Bool) → is_ask a.env.how ≡ c → is_ask a.env.how ≡ true
      by true is = is
      by false is = absurd (true≢false (sym asks ∙ happened_still (is_asking from n) h (e s) (not_this is)
          ∙ not_asking))
        where
          not_this : is_ask a.env.how ≡ false → (a.env.from == from && a.n == n && is_ask a.env.how) ≡ false
          not_this is = ap (λ (c : Bool). a.env.from == from && a.n == n && c) is
              ∙ last (a.env.from == from && a.n == n)
            where
              last : (c : Bool) → (c && false) ≡ false
              last true = refl
              last false = refl

  taken_at_once : b ≡ true → (s : ℕ) → is_ask a.env.how ≡ true → is_taken (h ++ e s ∷ []) from n ≡ true
  taken_at_once now s how = by o (grown s) (at_once.asked now how)
    where
      by : (o : Option post.Post) → matched_pairs (h ++ e s ∷ []) ≡ matched_pairs h ++ option_to_list
          (option_map (λ p. pair_of p a) o)
          → is_some o ≡ true → is_taken (h ++ e s ∷ []) from n ≡ true
      by None grown' is = absurd (true≢false (sym is))
      by (Some p) grown' is = taken_now h (h ++ e s ∷ []) (pair_of p a) grown'

  ends : b ≡ true → (s t : ℕ) → AreReceived (marked v1 from n) (h ++ (e s ∷ at t (Whole from n) ∷ []))
      × AreRight v.sizes.ranks h (e s ∷ at t (Whole from n) ∷ [])
  ends now s t =
      let x : Event = at t (Whole from n) in
      let h1 : List Event = h ++ e s ∷ [] in
      let there = came_here v h (stood_of v h received) streams s a next.receipts next.next in
      let stood2 = stood-marked v1 h1 (stood1 s) t from n (newcomer a) there in
      let pairs2 : matched_pairs (h1 ++ x ∷ []) ≡ matched_pairs h ++ option_to_list (option_map (λ p. pair_of p a) o) =
      matched_pairs-push_other h1 x refl ∙ grown s in
      let here2 : happened (is_whole from n) (h1 ++ x ∷ []) ≡ true =
      happened_now (is_whole from n) h1 x (ap (λ (b : Bool). b && n == n) (eq_true from from refl) ∙ eq_true n n refl)
      in
      let not_yet : happened (is_whole from n) h1 ≡ false =
      happened_still (is_whole from n) h (e s) refl ∙ sym (received.whole from n) ∙ ap is_whole_at was_none in
      let arrived : happened (is_arrival from n) h1 ≡ true =
      happened_now (is_arrival from n) h (e s) (ap (λ (b : Bool). b && n == n) (eq_true from from refl)
      ∙ eq_true n n refl) in (
        subst (λ (k : List Event). AreReceived (marked v1 from n) k) (append_assoc h (e s ∷ []) (x ∷ []))
            (received_of (marked v1 from n) (h1 ++ x ∷ []) stood2
            (empty_more h (h1 ++ x ∷ []) (option_map (λ p. pair_of p a) o) pairs2
            (λ i k was. happened_later (is_whole i k) h1 (x ∷ []) (happened_later (is_whole i k) h (e s ∷ []) was))
            (λ q is _. let of = of_a q is in
            subst (λ (y : Arrival). happened (is_whole y.env.from y.n) (h1 ++ x ∷ []) ≡ true) (sym of.0) here2)
            received.empty)),
        right-two v.sizes.ranks h (e s) x (right1 s)
            (right-whole v.sizes.ranks h1 from n not_yet arrived
            (λ asks. taken_at_once now s (asking_now s asks))),
      )

  pub keeps-came : (events : List Event) → happenings events ≡ Arrive a ∷ whole_if b from n
      → AreReceived (marked_if b v1 from n) (h ++ events) × AreRight v.sizes.ranks h events
  keeps-came events happens = by b refl
    where
      by : (c : Bool) → b ≡ c → AreReceived (marked_if b v1 from n) (h ++ events) × AreRight v.sizes.ranks h events
      by true is =
          subst (λ (c : Bool). AreReceived (marked_if c v1 from n) (h ++ events) × AreRight v.sizes.ranks h events)
          (sym is)
          (unstamp-two (λ events. AreReceived (marked v1 from n) (h ++ events) × AreRight v.sizes.ranks h events)
          events (Arrive a) (Whole from n)
          (λ s t. ends is s t) (happens ∙ ap (λ (c : Bool). Arrive a ∷ whole_if c from n) is))
      by false is =
          subst (λ (c : Bool). AreReceived (marked_if c v1 from n) (h ++ events) × AreRight v.sizes.ranks h events)
          (sym is)
          (unstamp-one (λ events. AreReceived v1 (h ++ events) × AreRight v.sizes.ranks h events) events (Arrive a)
          (λ s. begins is s) (happens ∙ ap (λ (c : Bool). Arrive a ∷ whole_if c from n) is))
