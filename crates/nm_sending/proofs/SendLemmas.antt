-- The next message to a rank.
use Rattle.std.proofs.Common.{◌≡◌, ℕ, ◌+◌, ◌*◌, ◌<◌, ◌≤◌, ◌==◌, zero, suc, Bool, true, false}
use Rattle.std.proofs.Common.{not, ◌&&◌, ◌||◌}
use Rattle.std.proofs.Common.{cond, Option, Some, None, List, [], ◌∷◌, ◌++◌, length, map}
use Rattle.std.proofs.Common.{is_some, refl, sym}
use Rattle.std.proofs.Common.{◌∙◌, ap, subst, arith, true≢false, append-nil, sum_by}
use Rattle.std.specs.Prelude.{option_and_then}
use Rattle.std.specs.List.{filter, filter_map, list_any, range_with_len, slice_get}
use Rattle.std.specs.Map.{values_of}
use Rattle.std.specs.Option.{option_map_or}
use Rattle.std.proofs.Math.ListN.{set}
use Rattle.std.proofs.lemmas.List.{length-map, length-set, map-append}
use Rattle.std.proofs.lemmas.List.Elements.{filter_agree, filter_map-append}
use Rattle.std.proofs.lemmas.List.Folds.{list_any-append}
use Rattle.std.proofs.lemmas.List.FromFn.{length-range_with_len}
use Rattle.std.proofs.lemmas.List.Sums.{sum_by_push}
use Rattle.std.proofs.lemmas.Option.{slice_get_past}
use Rattle.nm_types.specs.Bodies.{body_len}
use Rattle.nm_types.specs.declared.limits.TheConstants.{MAX_BODY}
use Rattle.nm_types.specs.declared.scripts.Body.{Body}
use Rattle.nm_types.specs.declared.messages.How.{How}
use Rattle.nm_types.specs.declared.messages.How.TheVariants.{Eager, Ask}
use Rattle.nm_history.specs.declared.events.Event.{Event}
use Rattle.nm_history.specs.declared.events.Happened.{Happened}
use Rattle.nm_history.specs.declared.events.Happened.TheVariants.{Send, Out}
use Rattle.nm_history.specs.Delivery.{is_asked}
use Rattle.nm_history.specs.Happens.{happened, is_send, is_out, is_recall, is_undone, at}
use Rattle.nm_history.specs.Sends.{Sent, sends, is_ask}
use Rattle.nm_history.proofs.DeliveryLemmas.{sends-push}
use Rattle.nm_history.proofs.Basic.{or_false}
use Rattle.nm_history.specs.Clearance.{left_of, pushed_out}
use Rattle.nm_history.specs.Continues.{AreApart, has}
use Rattle.nm_history.specs.Effects.{is_empty_send}
use Rattle.nm_history.specs.Rules.{IsRightAt}
use Rattle.nm_rndv.specs.declared.asked.State.{State}
use Rattle.nm_rndv.specs.declared.asked.State.TheVariants.{Asked}
use Rattle.nm_rndv.specs.Offers.{Destined, Offering, untold, destined, state_of}
use Rattle.nm_rndv.specs.Offers.{recall_in, leaves}
use Rattle.nm_rndv.specs.Offers.{is_leaving, with_asked, with_destined}
use Rattle.nm_sending.specs.Outboxes.{OutboxView}
use Rattle.nm_sending.specs.declared.TheConstants.{MAX_MESSAGES}
use Rattle.nm_sending.specs.declared.departures.Departure.{Departure}
use Rattle.nm_sending.specs.Departures.{SendingView, fresh, row_of, departures_to, departure_of}
use Rattle.nm_sending.specs.Departures.{passes, was_undone}
use Rattle.nm_sending.specs.Departures.{cleared_to, leaving_to, pushed_to, ends_to}
use Rattle.nm_sending.specs.Sent.{AreSent, Preserves}
use Rattle.nm_sending.specs.Tables.{TablesAgree, IsOffer, IsOfferBy, allowance, allowed}
use Rattle.nm_sending.specs.Tables.{recall_of, waiting_from}
use Rattle.nm_sending.proofs.OfferLemmas.{state-asked, states-change, read-stay}
use Rattle.nm_sending.proofs.PlaceLemmas.{Steps, eq_swap, row-set, departure-push, length-departure_push}
use Rattle.nm_sending.proofs.PlaceLemmas.{passes-step, passes-more, passes-same}
use Rattle.nm_sending.proofs.SentLemmas.{keeps-one}
use Rattle.nm_sending.proofs.TableLemmas.{is_at, at_place, unchanged, or_nothing, states-step, recalls-step}
use Rattle.nm_sending.proofs.TableLemmas.{unanswered-step}
use Rattle.nm_sending.proofs.TurnLemmas.{InTurn, filter-apart}
use Rattle.nm_sending.proofs.WaitingLemmas.{waiting-push, staying_in, staying-push}
use Rattle.nm_types.proofs.NumberLemmas.{same_number}
use Rattle.nm_history.proofs.AppendLemmas.{happened-push}

-- one number more
range-push : (a n : ℕ) → range_with_len a (n + 1) ≡ range_with_len a n ++ (a + n) ∷ []
range-push a zero = let e : a ≡ a + 0 = omega arith in ap (λ (x : ℕ). x ∷ []) e
range-push a (suc n) =
    let e : suc n + 1 ≡ suc (n + 1) = omega arith in
    let f : a + 1 + n ≡ a + suc n = omega arith in
    ap (λ (x : ℕ). range_with_len a x) e
    ∙ ap (λ (ns : List ℕ). a ∷ ns) (range-push (a + 1) n
    ∙ ap (λ (x : ℕ). range_with_len (a + 1) n ++ x ∷ []) f)

-- functions that agree but where a test passes, which none does
filter_map_but : {X Y : Type 0} (test : X → Bool) (f g : X → Option Y) (xs : List X) → list_any test xs
    ≡ false
    → ((x : X) → test x ≡ false → f x ≡ g x) → filter_map f xs ≡ filter_map g xs
filter_map_but test f g [] none each = refl
filter_map_but test f g (x ∷ xs) none each =
    rw (
      each x (first (test x) (list_any test xs) none),
      filter_map_but test f g xs (later (test x) (list_any test xs) none) each,
    ) refl
  where
    first : (a b : Bool) → (a || b) ≡ false → a ≡ false
    first true b h = absurd (true≢false h)
    first false b h = refl

    later : (a b : Bool) → (a || b) ≡ false → b ≡ false
    later true b h = absurd (true≢false h)
    later false b h = h

-- a message more is asked of a destination
allowed-asked : (d : Destined) (n : ℕ) (body : Body) → allowed (with_asked d n body) ≡ allowed d + 1024
allowed-asked d n body =
    ap (λ (ss : List State). sum_by allowance ss)
    (map-append (λ (e : ℕ × State). e.1) d.asked ((n, Asked body) ∷ []))
    ∙ sum_by_push allowance (values_of d.asked) (Asked body)

-- what is offered after a message was sent this way
abbrev pub offers-after : How → Offering → ℕ → ℕ → Body → Offering
offers-after how v to n body = cond (is_ask how) (with_destined v to (with_asked (destined v to) n body)) v

module _ (me ranks : ℕ) (old : SendingView) (tables : TablesAgree me ranks old) (to n : ℕ) (within : to < ranks)
    (next : n ≡ length (departures_to old to)) (few : length (departures_to old to) < MAX_MESSAGES)
    (how : How) (body : Body) (short : is_ask how ≡ true → body_len body ≤ MAX_BODY) where
  none : departure_of old to n ≡ None
  none = slice_get_past (departures_to old to) n (omega (arith, next))

  empty-offer : (has (cleared_to old to) n ≡ false) × (state_of old.offers to n ≡ None)
  empty-offer = subst (λ (o : Option Departure). IsOffer o (has (cleared_to old to) n)
      (state_of old.offers to n)) none
      (tables.states to n)

  inside : to < length old.offers.destinations
  inside = omega (arith, within, tables.offers)

  rows_inside : to < length old.departures
  rows_inside = omega (arith, within, tables.rows)

  -- it can be asked for
  pub unasked : state_of old.offers to n ≡ None
  unasked = empty-offer.1

  module _ (outbox : OutboxView) (rows : List (List Departure)) (staying : ℕ)
      (now : rows ≡ set old.departures to (row_of old.departures to ++ fresh how (body_len body) ∷ [])) where
    abbrev d : Departure
    d = fresh how (body_len body)

    abbrev pub after-send : SendingView
    after-send = record {
      outbox = outbox;
      offers = offers-after how old.offers to n body;
      departures = rows;
      pushed = old.pushed;
      staying = staying;
    }

    steps : Steps (departure_of old) (departure_of after-send) to n None d
    steps = record {
      was = none;
      are = λ t k. ap (λ (r : List (List Departure)). slice_get (row_of r t) k) now
          ∙ departure-push old.departures to rows_inside d t k
          ∙ ap (λ (x : ℕ). cond (to == t && x == k) (Some d) (slice_get (row_of old.departures t) k))
          (sym next);
    }

    lens : (t : ℕ) → length (departures_to after-send t) ≡ length (departures_to old t) + cond (to == t) 1 0
    lens t = ap (λ (r : List (List Departure)). length (row_of r t)) now
        ∙ length-departure_push old.departures to rows_inside d t

    row : (t : ℕ) → departures_to after-send t
        ≡ cond (to == t) (row_of old.departures to ++ d ∷ []) (departures_to old t)
    row t = ap (λ (r : List (List Departure)). row_of r t) now
        ∙ row-set old.departures to t (row_of old.departures to ++ d ∷ []) [] rows_inside

    order : after-send.offers.order ≡ old.offers.order
    order = by_test (is_ask how) where
      by_test : (b : Bool) → (cond b (with_destined old.offers to
          (with_asked (destined old.offers to) n body)) old.offers).order
          ≡ old.offers.order
      by_test true = refl
      by_test false = refl

    cleared : (t : ℕ) → cleared_to after-send t ≡ cleared_to old t
    cleared t = ap (λ (ms : List (ℕ × ℕ)). map (λ m. m.1) (filter (λ m. m.0 == t) ms)) order

    abbrev next_state : Bool → Option State
    next_state asked = cond asked (Some (Asked body)) None

    states : (t k : ℕ) → state_of after-send.offers t k
        ≡ cond (is_at to n t k) (next_state (is_ask how)) (state_of old.offers t k)
    states t k = by_test (is_ask how) where
      by_test : (b : Bool)
          → state_of (cond b (with_destined old.offers to (with_asked (destined old.offers to) n body))
          old.offers) t k
          ≡ cond (is_at to n t k) (next_state b) (state_of old.offers t k)
      by_test true = states-change old.offers.destinations to inside
          (with_asked (destined old.offers to) n body) n
          (Asked body) (state-asked (destined old.offers to) n body unasked) t k
      by_test false = unchanged (λ t k. state_of old.offers t k) to n t k
          ∙ ap (λ (s : Option State). cond (is_at to n t k) s (state_of old.offers t k)) unasked

    here : (c : Bool) → c ≡ false → IsOffer (Some d) c (next_state (is_ask how))
    here c is = by_how how short where
      by_how : (w : How) → (is_ask w ≡ true → body_len body ≤ MAX_BODY)
          → IsOfferBy w (fresh w (body_len body)) c (next_state (is_ask w))
      by_how Eager fits = (is, refl)
      by_how Ask fits = (refl, fits refl, is, refl, refl)

    recalls : (t k : ℕ) → recall_in (destined after-send.offers t) k ≡ recall_in (destined old.offers t) k
    recalls t k = by_test (is_ask how) where
      by_test : (b : Bool) → recall_in (destined
          (cond b (with_destined old.offers to (with_asked (destined old.offers to) n body)) old.offers) t) k
          ≡ recall_in (destined old.offers t) k
      by_test true = read-stay recall_in old.offers.destinations to inside
          (with_asked (destined old.offers to) n body) (λ q. refl) t k
      by_test false = refl

    allows : (t : ℕ) → allowed (destined after-send.offers t)
        ≤ allowed (destined old.offers t) + cond (to == t) 1024 0
    allows t = by_test (is_ask how) where
      by_to : (c : Bool) → (to == t) ≡ c
          → allowed (cond c (with_asked (destined old.offers to) n body) (destined old.offers t))
          ≤ allowed (destined old.offers t) + cond c 1024 0
      by_to true is =
          subst (λ (k : ℕ). allowed (with_asked (destined old.offers to) n body)
          ≤ allowed (destined old.offers k) + 1024)
          (same_number to t is) (let more = allowed-asked (destined old.offers to) n body in omega
          (arith, more))
      by_to false is = omega arith

      by_test : (b : Bool) → allowed (destined
          (cond b (with_destined old.offers to (with_asked (destined old.offers to) n body)) old.offers) t)
          ≤ allowed (destined old.offers t) + cond (to == t) 1024 0
      by_test true = subst (λ (x : Destined). allowed x
          ≤ allowed (destined old.offers t) + cond (to == t) 1024 0)
          (sym (row-set old.offers.destinations to t
          (with_asked (destined old.offers to) n body) untold inside))
          (by_to (to == t) refl)
      by_test false = omega arith

    pieces : (t : ℕ) → pushed_to old t + allowed (destined after-send.offers t)
        ≤ 1024 * length (departures_to after-send t)
    pieces t =
        subst (λ (k : ℕ). pushed_to old t + allowed (destined after-send.offers t) ≤ 1024 * k) (sym (lens t))
        (by_test (to == t) (allows t))
      where
        by_test : (b : Bool) → allowed (destined after-send.offers t)
            ≤ allowed (destined old.offers t) + cond b 1024 0
            → pushed_to old t + allowed (destined after-send.offers t)
            ≤ 1024 * (length (departures_to old t) + cond b 1 0)
        by_test true more = let all = tables.pieces t in omega (arith, all, more)
        by_test false more = let all = tables.pieces t in omega (arith, all, more)

    waiting : (t : ℕ) → waiting_from 0 (departures_to after-send t)
        ≡ waiting_from 0 (departures_to old t) ++ cond (to == t && not (is_ask how)) (n ∷ []) []
    waiting t = ap (λ (ds : List Departure). waiting_from 0 ds) (row t) ∙ by_test (to == t) refl where
      and_true : (b : Bool) → (b && true) ≡ b
      and_true true = refl
      and_true false = refl

      by_test : (b : Bool) → (to == t) ≡ b
          → waiting_from 0 (cond b (row_of old.departures to ++ d ∷ []) (departures_to old t))
          ≡ waiting_from 0 (departures_to old t) ++ cond (b && not (is_ask how)) (n ∷ []) []
      by_test true is =
          waiting-push 0 n (row_of old.departures to) d (omega (arith, next))
          ∙ ap (λ (b : Bool). waiting_from 0 (row_of old.departures to) ++ cond b (n ∷ []) [])
          (and_true (not (is_ask how)))
          ∙ ap (λ (k : ℕ). waiting_from 0 (row_of old.departures k) ++ cond (not (is_ask how)) (n ∷ []) [])
          (same_number to t is)
      by_test false is = sym (append-nil (waiting_from 0 (departures_to old t)))

    pub send-tables : outbox.me ≡ old.outbox.me → length outbox.popped ≡ length old.outbox.popped
        → ((t : ℕ) → ends_to t outbox.letters
        ≡ ends_to t old.outbox.letters ++ cond (to == t && not (is_ask how)) (n ∷ []) [])
        → staying ≡ old.staying + 1 → TablesAgree me ranks after-send
    send-tables own letters ends counted = record {
      own = tables.own ∙ sym own;
      letters = letters ∙ tables.letters;
      rows = ap (λ (r : List (List Departure)). length r) now
          ∙ length-set old.departures to (row_of old.departures to ++ d ∷ []) ∙ tables.rows;
      offers = many (is_ask how) ∙ tables.offers;
      counts = tables.counts;
      eager = λ t. ends t ∙ ap (λ (ns : List ℕ). ns ++ cond (to == t && not (is_ask how)) (n ∷ []) [])
          (tables.eager t)
          ∙ sym (waiting t);
      states = states-step old after-send to n None d steps (next_state (is_ask how)) false states
          (λ t k. ap (λ (ns : List ℕ). has ns k) (cleared t)
          ∙ or_nothing (has (cleared_to old t) k) (is_at to n t k))
          (here (has (cleared_to old to) n || false) (or_false (has (cleared_to old to) n) ∙ empty-offer.0))
          tables.states;
      once = λ t. subst (λ (ns : List ℕ). AreApart ns) (sym (cleared t)) (tables.once t);
      recalls = recalls-step old after-send to n None d steps
          (λ t k. recalls t k ∙ unchanged (λ t k. recall_in (destined old.offers t) k) to n t k
          ∙ ap (λ (r : Option (Option Bool)). cond (is_at to n t k) r (recall_in (destined old.offers t) k))
          (tables.recalls to n ∙ ap (λ (o : Option Departure). option_and_then recall_of o) none))
          tables.recalls;
      unanswered = unanswered-step old after-send to n None d steps
          (λ x. not x.recalled && is_some x.undone) refl
          tables.unanswered;
      staying =
          let was : old.staying ≡ sum_by staying_in old.departures = tables.staying in
          let one = staying-push old.departures to d rows_inside in
          let now' : sum_by staying_in rows
          ≡ sum_by staying_in (set old.departures to (row_of old.departures to ++ d ∷ [])) =
          ap (λ (r : List (List Departure)). sum_by staying_in r) now in
          omega (arith, counted, was, one, now');
      few = λ t. subst (λ (k : ℕ). k ≤ MAX_MESSAGES) (sym (lens t)) (by_few t (to == t) refl);
      pieces = pieces;
    }
      where
        many : (b : Bool) → length
            (cond b (with_destined old.offers to (with_asked (destined old.offers to) n body))
            old.offers).destinations
            ≡ length old.offers.destinations
        many true = length-set old.offers.destinations to (with_asked (destined old.offers to) n body)
        many false = refl

        by_few : (t : ℕ) (b : Bool) → (to == t) ≡ b → length (departures_to old t) + cond b 1 0 ≤ MAX_MESSAGES
        by_few t true is = subst (λ (k : ℕ). length (departures_to old k) + 1 ≤ MAX_MESSAGES)
            (same_number to t is)
            (omega (arith, few))
        by_few t false is = let all = tables.few t in omega (arith, all)

    module _ (tag ctx line : ℕ) (h : List Event) (stamp : ℕ) (was : AreSent old h) where
      abbrev w : Happened
      w = Send to n tag ctx (body_len body) how line

      abbrev e : Event
      e = at stamp w

      abbrev s : Sent
      s = record {
        stamp = stamp;
        to = to;
        n = n;
        tag = tag;
        ctx = ctx;
        len = body_len body;
        how = how;
        line = line;
      }

      sends-after : (t : ℕ) → sends (h ++ e ∷ []) t ≡ sends h t ++ cond (to == t) (s ∷ []) []
      sends-after t = sends-push h e t

      -- what the sends say of a number, with one send more
      any-after : (p : Sent → Bool) (t k : ℕ) → list_any (λ x. x.n == k && p x) (sends (h ++ e ∷ []) t)
          ≡ (list_any (λ x. x.n == k && p x) (sends h t) || (is_at to n t k && p s))
      any-after p t k =
          ap (λ (ss : List Sent). list_any (λ x. x.n == k && p x) ss) (sends-after t)
          ∙ list_any-append (λ (x : Sent). x.n == k && p x) (sends h t) (cond (to == t) (s ∷ []) [])
          ∙ ap (λ (b : Bool). list_any (λ x. x.n == k && p x) (sends h t) || b) (by_test (to == t) (n == k))
        where
          by_test : (b c : Bool) → list_any (λ x. x.n == k && p x) (cond b (s ∷ []) [])
              ≡ ((b && n == k) && p s)
          by_test true c = or_false (n == k && p s)
          by_test false c = refl

      -- where the number is another, they say the same
      any-other : (p : Sent → Bool) (t k : ℕ) → is_at to n t k ≡ false
          → list_any (λ x. x.n == k && p x) (sends (h ++ e ∷ []) t)
          ≡ list_any (λ x. x.n == k && p x) (sends h t)
      any-other p t k off = any-after p t k
          ∙ ap (λ (b : Bool). list_any (λ x. x.n == k && p x) (sends h t) || (b && p s)) off
          ∙ or_false (list_any (λ x. x.n == k && p x) (sends h t))

      other_number : (t k : ℕ) → (n == k) ≡ false → is_at to n t k ≡ false
      other_number t k off = by_test (to == t) where
        by_test : (b : Bool) → (b && n == k) ≡ false
        by_test true = off
        by_test false = refl

      -- it has not left
      not_out : happened (is_out to n) h ≡ false
      not_out = sym (was.out to n) ∙ ap (λ (o : Option Departure). passes (λ x. x.out) o) none

      left-same : (t : ℕ) (x : Happened) → is_out to n x ≡ false → left_of (h ++ e ∷ []) t x ≡ left_of h t x
      left-same t (Out t' k) off = by_test (t' == t) refl where
        by_test : (b : Bool) → (t' == t) ≡ b
            → cond (b && is_asked (sends (h ++ e ∷ []) t) k && not (is_empty_send (h ++ e ∷ []) t k))
            (Some k) None
            ≡ cond (b && is_asked (sends h t) k && not (is_empty_send h t k)) (Some k) None
        by_test false is = refl
        by_test true is =
            let same : t' ≡ t = same_number t' t is in
            let off' : is_at to n t k ≡ false =
            ap (λ (b : Bool). b && n == k) (eq_swap to t) ∙ ap (λ (b : Bool). (t == to) && b) (eq_swap n k)
            ∙ subst (λ (x : ℕ). (x == to && k == n) ≡ false) same off in
            rw (any-other (λ x. is_ask x.how) t k off', any-other (λ x. x.len == 0) t k off') refl
      left-same t x off = refl

      pushed-after : (t : ℕ) → pushed_out (h ++ e ∷ []) t ≡ pushed_out h t
      pushed-after t =
          filter_map-append (λ (x : Event). left_of (h ++ e ∷ []) t x.what) h (e ∷ [])
          ∙ append-nil (filter_map (λ (x : Event). left_of (h ++ e ∷ []) t x.what) h)
          ∙ filter_map_but (λ (x : Event). is_out to n x.what) (λ x. left_of (h ++ e ∷ []) t x.what)
          (λ x. left_of h t x.what) h not_out (λ x off. left-same t x.what off)

      with_body-after : (t : ℕ) → filter (λ k. not (is_empty_send (h ++ e ∷ []) t k)) (cleared_to old t)
          ≡ filter (λ k. not (is_empty_send h t k)) (cleared_to old t)
      with_body-after t = by_test (to == t) refl where
        by_test : (b : Bool) → (to == t) ≡ b
            → filter (λ k. not (is_empty_send (h ++ e ∷ []) t k)) (cleared_to old t)
            ≡ filter (λ k. not (is_empty_send h t k)) (cleared_to old t)
        by_test true is =
            filter-apart (λ k. not (is_empty_send (h ++ e ∷ []) t k)) (λ k. not (is_empty_send h t k)) n
            (cleared_to old t)
            (ap (λ (x : ℕ). has (cleared_to old x) n) (sym (same_number to t is)) ∙ empty-offer.0)
            (λ k off. ap (λ (b : Bool). not b) (any-other (λ x. x.len == 0) t k (other_number t k off)))
        by_test false is =
            filter_agree (λ k. not (is_empty_send (h ++ e ∷ []) t k)) (λ k. not (is_empty_send h t k))
            (λ k. ap (λ (b : Bool). not b) (any-other (λ x. x.len == 0) t k
            (ap (λ (b : Bool). b && n == k) is)))
            (cleared_to old t)

      leaves-after : (t k : ℕ) → leaves after-send.offers.destinations (t, k)
          ≡ leaves old.offers.destinations (t, k)
      leaves-after t k = ap (λ (o : Option State). option_map_or is_leaving o false) (states t k)
          ∙ by_test (is_at to n t k) refl
        where
          none_leaves : (b : Bool) → option_map_or is_leaving (next_state b) false ≡ false
          none_leaves true = refl
          none_leaves false = refl

          by_test : (b : Bool) → is_at to n t k ≡ b
              → option_map_or is_leaving (cond b (next_state (is_ask how)) (state_of old.offers t k)) false
              ≡ leaves old.offers.destinations (t, k)
          by_test true is = none_leaves (is_ask how)
              ∙ sym (ap (λ (o : Option State). option_map_or is_leaving o false) unasked)
              ∙ at_place (λ t k. leaves old.offers.destinations (t, k)) to n t k is
          by_test false is = refl

      turn : InTurn after-send (h ++ e ∷ [])
      turn t =
          ap (λ (ns : List ℕ). filter (λ k. not (is_empty_send (h ++ e ∷ []) t k)) ns) (cleared t)
          ∙ with_body-after t ∙ was.in_turn t
          ∙ ap (λ (ns : List ℕ). ns ++ leaving_to old t) (sym (pushed-after t))
          ∙ ap (λ (ns : List ℕ). pushed_out (h ++ e ∷ []) t ++ ns)
          (sym (ap (λ (ns : List ℕ). filter (λ k. leaves after-send.offers.destinations (t, k)) ns)
          (cleared t)
          ∙ filter_agree (λ k. leaves after-send.offers.destinations (t, k))
          (λ k. leaves old.offers.destinations (t, k)) (leaves-after t) (cleared_to old t)))

      -- a test that no event of a new message passes
      same_as : (f : Departure → Bool) (test : Happened → Bool) (t k : ℕ) → f d ≡ false → test w ≡ false
          → passes f (departure_of old t k) ≡ happened test h
          → passes f (departure_of after-send t k) ≡ happened test (h ++ e ∷ [])
      same_as f test t k is off before =
          passes-same (departure_of old) (departure_of after-send) to n None d steps f t k is ∙ before
          ∙ sym (happened-push test h e ∙ ap (λ (b : Bool). happened test h || b) off
          ∙ or_false (happened test h))

      numbers-after : (t : ℕ) → map (λ s. s.n) (sends (h ++ e ∷ []) t)
          ≡ range_with_len 0 (length (departures_to after-send t))
      numbers-after t =
          ap (λ (ss : List Sent). map (λ s. s.n) ss) (sends-after t)
          ∙ map-append (λ (s : Sent). s.n) (sends h t) (cond (to == t) (s ∷ []) [])
          ∙ ap (λ (ns : List ℕ). ns ++ map (λ s. s.n) (cond (to == t) (s ∷ []) [])) (was.numbers t)
          ∙ by_test (to == t) refl
          ∙ ap (λ (k : ℕ). range_with_len 0 k) (sym (lens t))
        where
          by_test : (b : Bool) → (to == t) ≡ b
              → range_with_len 0 (length (departures_to old t)) ++ map (λ s. s.n) (cond b (s ∷ []) [])
              ≡ range_with_len 0 (length (departures_to old t) + cond b 1 0)
          by_test true is =
              let number : n ≡ 0 + length (departures_to old t) =
              next ∙ ap (λ (x : ℕ). length (departures_to old x)) (same_number to t is) ∙ omega arith in
              ap (λ (x : ℕ). range_with_len 0 (length (departures_to old t)) ++ x ∷ []) number
              ∙ sym (range-push 0 (length (departures_to old t)))
          by_test false is =
              append-nil (range_with_len 0 (length (departures_to old t)))
              ∙ ap (λ (k : ℕ). range_with_len 0 k) (omega arith)

      some_passes : (o : Option Departure) → is_some o ≡ passes (λ d. true) o
      some_passes None = refl
      some_passes (Some x) = refl

      sent-send : AreSent after-send (h ++ e ∷ [])
      sent-send = record {
        numbers = numbers-after;
        sent = λ t k. some_passes (departure_of after-send t k)
            ∙ passes-more (departure_of old) (departure_of after-send) to n None d steps (λ x. true) t k refl
            ∙ ap (λ (b : Bool). b || is_at to n t k) (sym (some_passes (departure_of old t k)) ∙ was.sent t k)
            ∙ sym (happened-push (is_send t k) h e);
        asked = λ t k.
            passes-step (departure_of old) (departure_of after-send) to n None d steps (λ x. is_ask x.how) t k
            (is_ask how) refl
            ∙ ap (λ (b : Bool). b || (is_at to n t k && is_ask how)) (was.asked t k)
            ∙ sym (any-after (λ x. is_ask x.how) t k);
        empty = λ t k.
            passes-step (departure_of old) (departure_of after-send) to n None d steps (λ x. x.len == 0) t k
            (body_len body == 0) refl
            ∙ ap (λ (b : Bool). b || (is_at to n t k && body_len body == 0)) (was.empty t k)
            ∙ sym (any-after (λ x. x.len == 0) t k);
        out = λ t k. same_as (λ x. x.out) (is_out t k) t k refl refl (was.out t k);
        recalled = λ t k. same_as (λ x. x.recalled) (is_recall t k) t k refl refl (was.recalled t k);
        undone = λ t k done. same_as (was_undone done) (is_undone t k done) t k refl refl
            (was.undone t k done);
        in_turn = turn;
      }

      right-send : (rs : ℕ) → IsRightAt rs h w
      right-send rs = record {
        numbers = next ∙ sym (sym (length-map (sends h to) (λ s. s.n))
            ∙ ap (λ (ns : List ℕ). length ns) (was.numbers to)
            ∙ length-range_with_len 0 (length (departures_to old to)));
        matches = tt;
        claims = tt;
        cancels = tt;
        wholes = tt;
        ends = tt;
      }

    pub send-kept : (tag ctx line : ℕ)
        → Preserves old after-send (Send to n tag ctx (body_len body) how line ∷ [])
    send-kept tag ctx line = keeps-one old after-send (Send to n tag ctx (body_len body) how line)
        (λ h stamp was. (sent-send tag ctx line h stamp was, right-send tag ctx line h stamp was))
