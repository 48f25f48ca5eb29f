-- What the calls keep: the relation, and that the events may come there.
use Rattle.std.proofs.Common.{◌≡◌, ℕ, ◌<◌, ◌==◌, Bool, true, false, ◌&&◌, cond, Option, Some, None, List, [], ◌∷◌, ◌++◌}
use Rattle.std.proofs.Common.{length, refl, sym, ◌∙◌, ap, subst, append_assoc}
use Rattle.std.specs.Option.{option_map, option_to_list}
use Rattle.std.proofs.lemmas.Bool.{OnTrue_from, true≢false}
use Rattle.nm_types.specs.declared.messages.Arrival.{Arrival}
use Rattle.nm_history.specs.declared.events.Event.{Event}
use Rattle.nm_history.specs.declared.events.Happened.{Happened}
use Rattle.nm_history.specs.declared.events.Happened.TheVariants.{Whole}
use Rattle.nm_history.specs.declared.plain.Pair.{Pair}
use Rattle.nm_history.specs.Completion.{is_taken}
use Rattle.nm_history.specs.Happens.{at, happened, is_arrival, is_cancel, is_whole}
use Rattle.nm_history.specs.Matching.{matched_pairs, new_pair, pair_of_claimed as pair}
use Rattle.nm_history.specs.RankRun.{is_asking}
use Rattle.nm_history.specs.Sends.{arrival_of, message_of, receive_of}
use Rattle.nm_history.proofs.MatchingLemmas.{matched_pairs-push, matched_pairs-push_other}
use Rattle.nm_history.specs.Effects.{whole_if}
use Rattle.nm_history.specs.Rules.{AreRight, IsRightAt}
use Rattle.nm_match.specs.declared.deeds.Deed.{Deed}
use Rattle.nm_match.specs.Deeds.{deeds_after}
use Rattle.nm_receiving.specs.declared.receipts.Receipt.{Receipt}
use Rattle.nm_receiving.specs.Receipts.{ReceivingView, is_empty_ask, receipt_of, taken_events}
use Rattle.nm_receiving.specs.Received.{AreReceived, Preserves}
use Rattle.nm_receiving.specs.Steps.{rows_after, rows_with, rows_with_whole}
use Rattle.nm_receiving.proofs.Events.{right-one, right-two, unstamp-one, unstamp-two}
use Rattle.nm_receiving.proofs.Facts.{arrived_from, empty_more}
use Rattle.nm_receiving.proofs.Grow.{happened_later, happened_now, happened_still, taken_now}
use Rattle.nm_receiving.proofs.Marking.{marked, stood-marked}
use Rattle.nm_receiving.proofs.Stood.{Stood, begun, is_whole_at, received_of, stood-begun, stood_of}
use Rattle.nm_types.proofs.NumberLemmas.{eq_true}

-- a receive begins with the event w, whatever the stamp
pub record IsBegin (v : ReceivingView) (w : Happened) (d : Deed) (number cap : ℕ) (taken : Option Arrival) : Type 0
  where
    pub done : v.deeds ++ d ∷ [] ≡ deeds_after v.deeds w
    pub no_arrival : arrival_of w ≡ None
    pub receive : receive_of w ≡ Some number
    pub not_whole : (from n : ℕ) → is_whole from n w ≡ false
    pub not_cancel : (k : ℕ) → is_cancel k w ≡ false
    pub next : number ≡ length v.receives
    pub pair_made :
        (h : List Event) → AreReceived v h → AreRight v.sizes.ranks [] h →
        new_pair h (matched_pairs h) w ≡ option_map (pair number cap) taken
    pub right :
        (h : List Event) → AreReceived v h → AreRight v.sizes.ranks [] h → IsRightAt v.sizes.ranks h w

-- the message came from a rank of the run, and is not whole if it has no bytes and was asked for
pub record MayBegin (v : ReceivingView) (a : Arrival) (r : Receipt) : Type 0 where
  pub granted : a.env.from < length v.grants
  pub here : receipt_of v a.env.from a.n ≡ Some r
  pub whole : is_empty_ask a ≡ true → r.whole ≡ false

-- message n is here, and may be whole
pub right-whole : (ranks : ℕ) (h : List Event) (from n : ℕ) → happened (is_whole from n) h ≡ false
    → happened (is_arrival from n) h ≡ true → (happened (is_asking from n) h ≡ true → is_taken h from n ≡ true)
    → IsRightAt ranks h (Whole from n)
right-whole ranks h from n not_yet arrived taken = record {
  numbers = tt;
  matches = tt;
  claims = tt;
  cancels = tt;
  wholes = (not_yet, arrived, OnTrue_from (happened (is_asking from n) h) (is_taken h from n ≡ true) taken);
  ends = tt;
}

module _ (v : ReceivingView) (w : Happened) (d : Deed) (number cap : ℕ) (taken : Option Arrival)
    (begins : IsBegin v w d number cap taken) where
  abbrev v1 : ReceivingView
  v1 = begun v d cap taken

  abbrev v2 : ReceivingView
  v2 = record v1 { receipts = rows_with v.receipts taken }

  pub grown : (h : List Event) (s : ℕ) → AreReceived v h → AreRight v.sizes.ranks [] h
      → matched_pairs (h ++ at s w ∷ []) ≡ matched_pairs h ++ option_to_list (option_map (pair number cap) taken)
  grown h s received right =
      matched_pairs-push h (at s w) ∙ ap (λ (o : Option Pair). matched_pairs h ++ option_to_list o)
      (begins.pair_made h received right)

  pub begun_stood : (h : List Event) (s : ℕ) → AreReceived v h → AreRight v.sizes.ranks [] h
      → ((a : Arrival) → taken ≡ Some a → a.env.from < length v.grants) → Stood v1 (h ++ at s w ∷ [])
  begun_stood h s received right inside =
      stood-begun v h (at s w) (stood_of v h received) d number cap taken begins.next (grown h s received right)
      begins.done begins.no_arrival begins.receive begins.not_whole begins.not_cancel inside

-- a receive that takes no message
pub keeps-begun_none : (v : ReceivingView) (w : Happened) (d : Deed) (number cap : ℕ) → IsBegin v w d number cap None
    → Preserves v (begun v d cap None) (w ∷ [])
keeps-begun_none v w d number cap begins h events happens received right =
    unstamp-one (λ events. AreReceived (begun v d cap None) (h ++ events) × AreRight v.sizes.ranks h events) events w
    (λ s. (
      received_of (begun v d cap None) (h ++ at s w ∷ [])
          (begun_stood v w d number cap None begins h s received right (λ a is. absurd (let h' : ⊥ = cc in h')))
          (empty_more h (h ++ at s w ∷ []) None (grown v w d number cap None begins h s received right)
          (λ from n. happened_later (is_whole from n) h (at s w ∷ [])) (λ q is. absurd (let h' : ⊥ = cc in h'))
          received.empty),
      right-one v.sizes.ranks h (at s w) (begins.right h received right),
    ))
    happens

module _ (v : ReceivingView) (w : Happened) (d : Deed) (number cap : ℕ) (a : Arrival) (r : Receipt)
    (begins : IsBegin v w d number cap (Some a)) (may : MayBegin v a r) where
  abbrev from : ℕ
  from = a.env.from

  abbrev n : ℕ
  n = a.n

  abbrev w1 : ReceivingView
  w1 = begun v d cap (Some a)

  inside : (b : Arrival) → Some a ≡ Some b → b.env.from < length v.grants
  inside b is = let same : a ≡ b = cc in subst (λ (c : Arrival). c.env.from < length v.grants) same may.granted

  plain : is_empty_ask a ≡ false → (h : List Event) (s : ℕ) → AreReceived v h → AreRight v.sizes.ranks [] h
      → AreReceived w1 (h ++ at s w ∷ []) × AreRight v.sizes.ranks h (at s w ∷ [])
  plain bytes h s received right = (
    received_of w1 (h ++ at s w ∷ [])
        (begun_stood v w d number cap (Some a) begins h s received right inside)
        (empty_more h (h ++ at s w ∷ []) (Some (pair number cap a))
        (grown v w d number cap (Some a) begins h s received right)
        (λ i k. happened_later (is_whole i k) h (at s w ∷ []))
        (λ q is empty. let same : pair number cap a ≡ q = cc in
        absurd (true≢false (sym empty ∙ ap (λ (x : Pair). is_empty_ask x.arrival) (sym same) ∙ bytes))) received.empty),
    right-one v.sizes.ranks h (at s w) (begins.right h received right),
  )

  empty : is_empty_ask a ≡ true → (h : List Event) (s t : ℕ) → AreReceived v h → AreRight v.sizes.ranks [] h
      → AreReceived (marked w1 from n) (h ++ (at s w ∷ at t (Whole from n) ∷ []))
      × AreRight v.sizes.ranks h (at s w ∷ at t (Whole from n) ∷ [])
  empty none h s t received right =
      let e : Event = at s w in
      let x : Event = at t (Whole from n) in
      let h1 : List Event = h ++ e ∷ [] in
      let stood1 = begun_stood v w d number cap (Some a) begins h s received right inside in
      let stood2 = stood-marked w1 h1 stood1 t from n r may.here in
      let pairs1 = grown v w d number cap (Some a) begins h s received right in
      let pairs2 : matched_pairs (h1 ++ x ∷ []) ≡ matched_pairs h ++ option_to_list (Some (pair number cap a)) =
      matched_pairs-push_other h1 x refl ∙ pairs1 in
      let here2 : happened (is_whole from n) (h1 ++ x ∷ []) ≡ true =
      happened_now (is_whole from n) h1 x (ap (λ (b : Bool). b && n == n) (eq_true from from refl) ∙ eq_true n n refl)
      in
      let there : message_of h from n ≡ Some r.arrival =
      sym (received.messages from n) ∙ ap (λ (o : Option Receipt). option_map (λ m. m.arrival) o) may.here in
      let not_yet : happened (is_whole from n) h1 ≡ false =
      happened_still (is_whole from n) h e (begins.not_whole from n) ∙ sym (received.whole from n)
      ∙ ap is_whole_at may.here ∙ may.whole none in (
        subst (λ (k : List Event). AreReceived (marked w1 from n) k) (append_assoc h (e ∷ []) (x ∷ []))
            (received_of (marked w1 from n) (h1 ++ x ∷ []) stood2
            (empty_more h (h1 ++ x ∷ []) (Some (pair number cap a)) pairs2
            (λ i k was. happened_later (is_whole i k) h1 (x ∷ []) (happened_later (is_whole i k) h (e ∷ []) was))
            (λ q is _. let same : pair number cap a ≡ q = cc in
            subst (λ (y : Pair). happened (is_whole y.arrival.env.from y.arrival.n) (h1 ++ x ∷ []) ≡ true) same here2)
            received.empty)),
        right-two v.sizes.ranks h e x (begins.right h received right)
            (right-whole v.sizes.ranks h1 from n not_yet
            (happened_later (is_arrival from n) h (e ∷ []) (arrived_from h from n r.arrival there))
            (λ _. taken_now h h1 (pair number cap a) pairs1)),
      )

  pub keeps-begun_some : Preserves v (record w1 { receipts = rows_after v.receipts a }) (w ∷ taken_events (Some a))
  keeps-begun_some h events happens received right = by (is_empty_ask a) refl
    where
      Goal : ReceivingView → Type 0
      Goal v' = AreReceived v' (h ++ events) × AreRight v.sizes.ranks h events

      by : (b : Bool) → is_empty_ask a ≡ b → AreReceived (record w1 { receipts = rows_after v.receipts a })
          (h ++ events) × AreRight v.sizes.ranks h events
      by true is =
          subst (λ (rows : List (List Receipt)). AreReceived (record w1 { receipts = rows }) (h ++ events)
          × AreRight v.sizes.ranks h events)
          (sym (ap (λ (b : Bool). cond b (rows_with_whole v.receipts from n) v.receipts) is))
          (unstamp-two (λ events. AreReceived (marked w1 from n) (h ++ events) × AreRight v.sizes.ranks h events)
          events w (Whole from n)
          (λ s t. empty is h s t received right) (happens ∙ ap (λ (b : Bool). w ∷ whole_if b from n) is))
      by false is =
          subst (λ (rows : List (List Receipt)). AreReceived (record w1 { receipts = rows }) (h ++ events)
          × AreRight v.sizes.ranks h events)
          (sym (ap (λ (b : Bool). cond b (rows_with_whole v.receipts from n) v.receipts) is))
          (unstamp-one (λ events. AreReceived w1 (h ++ events) × AreRight v.sizes.ranks h events) events w
          (λ s. plain is h s received right) (happens ∙ ap (λ (b : Bool). w ∷ whole_if b from n) is))

-- a receive, and the message that it takes, if it takes one
pub keeps-begun : (v : ReceivingView) (w : Happened) (d : Deed) (number cap : ℕ) (taken : Option Arrival) →
    IsBegin v w d number cap taken
    → ((a : Arrival) → taken ≡ Some a → (r : Receipt) × MayBegin v a r)
    → Preserves v (record (begun v d cap taken) { receipts = rows_with v.receipts taken }) (w ∷ taken_events taken)
keeps-begun v w d number cap None begins may = keeps-begun_none v w d number cap begins
keeps-begun v w d number cap (Some a) begins may = let m = may a refl in
    keeps-begun_some v w d number cap a m.0 begins m.1
