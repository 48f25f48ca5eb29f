-- A message that was sent by asking is cleared.
use Rattle.std.proofs.Common.{◌≡◌, ℕ, ◌+◌, ◌*◌, ◌<◌, ◌≤◌, ◌==◌, Bool, true, false, not, ◌&&◌, ◌||◌, cond}
use Rattle.std.proofs.Common.{Option, Some, None, List, [], ◌∷◌, ◌++◌, length, is_some, refl, sym}
use Rattle.std.proofs.Common.{◌∙◌, ap, subst, arith, true≢false, append-nil}
use Rattle.std.specs.Option.{option_map_or}
use Rattle.std.proofs.lemmas.Bool.Decides.{nat_tests}
use Rattle.std.proofs.lemmas.List.{length-set}
use Rattle.nm_types.specs.Bodies.{body_len}
use Rattle.nm_types.specs.declared.scripts.Body.{Body}
use Rattle.nm_types.specs.declared.messages.How.{How}
use Rattle.nm_types.specs.declared.messages.How.TheVariants.{Eager, Ask}
use Rattle.nm_history.specs.declared.events.Event.{Event}
use Rattle.nm_history.specs.declared.events.Happened.TheVariants as event
use Rattle.nm_history.specs.Delivery.{is_asked}
use Rattle.nm_history.specs.Sends.{sends, is_ask}
use Rattle.nm_history.specs.Clearance.{pushed_out}
use Rattle.nm_history.proofs.Basic.{or_true, refuted}
use Rattle.nm_history.specs.Continues.{AreApart, has}
use Rattle.nm_history.specs.Effects.{is_empty_send}
use Rattle.nm_history.specs.Happens.{at}
use Rattle.nm_rndv.specs.Cuts.{start_of}
use Rattle.nm_rndv.specs.declared.asked.State.{State}
use Rattle.nm_rndv.specs.declared.asked.State.TheVariants.{Asked, Cleared, Out, Withdrawn}
use Rattle.nm_rndv.specs.Offers.{Destined, destined, state_of, recall_in, leaves, is_leaving, is_waiting}
use Rattle.std.specs.Prelude.{IsTrue, ◌↔◌}
use Rattle.nm_rndv.specs.Offers.{Offering, asked_len, len_of, with_step, with_clearance}
use Rattle.nm_rndv.specs.Offers.{after_clearance, leaving_or_out}
use Rattle.nm_sending.specs.declared.departures.Departure.{Departure}
use Rattle.nm_sending.specs.Departures.{SendingView, with_departure, departure_of, passes, was_undone}
use Rattle.nm_sending.specs.Departures.{cleared_to}
use Rattle.nm_sending.specs.Sent.{AreSent, Preserves, MayBeCleared}
use Rattle.nm_sending.specs.Tables.{TablesAgree, IsOffer, IsOfferBy, IsStateOf, allowance, allowed}
use Rattle.nm_sending.proofs.EventLemmas.{left_none, sends-same, pushed_out-same}
use Rattle.nm_sending.proofs.LeavingLemmas.{turn-clear}
use Rattle.nm_sending.proofs.PlaceLemmas.{eq_swap}
use Rattle.nm_sending.proofs.OfferLemmas.{state-stepped, states-change, read-stay, allowed-set}
use Rattle.nm_sending.proofs.PieceLemmas.{allowed-step}
use Rattle.nm_sending.proofs.PopLemmas.{asked_waits}
use Rattle.nm_sending.proofs.SentLemmas.{keeps-one, keeps-none, right-out, sent-out, sent-offers}
use Rattle.nm_sending.proofs.TableLemmas.{Change, change-steps, change-lens, change-waiting}
use Rattle.nm_sending.proofs.TableLemmas.{change-none, row_there}
use Rattle.nm_sending.proofs.TableLemmas.{tables-change, asked-states, recalls-still, unanswered-at, is_at}
use Rattle.nm_sending.proofs.TableLemmas.{out-counted}
use Rattle.nm_sending.proofs.TurnLemmas.{InTurn, numbers-push, has-append}
use Rattle.nm_sending.proofs.WaitingLemmas.{weight}
use Rattle.nm_types.proofs.NumberLemmas.{eq_true, same_number}

-- a message waits to be cleared where it was sent by asking, and was neither cleared nor withdrawn
abbrev open_ways : Bool → Bool → Bool → Bool
open_ways asked cleared undone = asked && not cleared && not undone

waits_by : (d : Departure) (cleared : Bool) (s : Option State) → IsStateOf d cleared s
    → option_map_or is_waiting s false ≡ open_ways true cleared (was_undone true d)
waits_by d cleared None offer = absurd offer
waits_by d cleared (Some (Asked body)) offer =
    sym (ap (λ (b : Bool). open_ways true b (was_undone true d)) offer.2 ∙ ap (open_ways true false) offer.4)
waits_by d cleared (Some (Cleared cut)) offer =
    sym (ap (λ (b : Bool). open_ways true b (was_undone true d)) offer.2)
waits_by d cleared (Some Out) offer = sym (ap (λ (b : Bool). open_ways true b (was_undone true d)) offer.0)
waits_by d cleared (Some Withdrawn) offer =
    sym (ap (λ (b : Bool). open_ways true b (was_undone true d)) offer.0 ∙ ap (open_ways true false) offer.2)

pub waits_is : (o : Option Departure) (cleared : Bool) (s : Option State) → IsOffer o cleared s
    → option_map_or is_waiting s false
    ≡ open_ways (passes (λ d. is_ask d.how) o) cleared (passes (was_undone true) o)
waits_is None cleared s offer = ap (λ (x : Option State). option_map_or is_waiting x false) offer.1
waits_is (Some d) cleared s offer = by_how d.how refl offer where
  by_how : (how : How) → d.how ≡ how → IsOfferBy how d cleared s
      → option_map_or is_waiting s false ≡ open_ways (is_ask d.how) cleared (was_undone true d)
  by_how Eager is offer' =
      ap (λ (x : Option State). option_map_or is_waiting x false) offer'.1
      ∙ sym (ap (λ (w : How). open_ways (is_ask w) cleared (was_undone true d)) is)
  by_how Ask is offer' =
      waits_by d cleared s offer' ∙ sym (ap (λ (w : How). open_ways (is_ask w) cleared (was_undone true d)) is)

-- a message that waits for its clearance, and its body
pub record Asks (v : SendingView) (to n : ℕ) : Type 0 where
  pub departure : Departure
  pub body : Body
  pub there : departure_of v to n ≡ Some departure
  pub asked : is_ask departure.how ≡ true
  pub state : state_of v.offers to n ≡ Some (Asked body)
  pub offer : IsStateOf departure (has (cleared_to v to) n) (Some (Asked body))

state_asks : (v : SendingView) (to n : ℕ) (d : Departure) → departure_of v to n ≡ Some d → is_ask d.how ≡ true
    → has (cleared_to v to) n ≡ false → was_undone true d ≡ false
    → (s : Option State) → state_of v.offers to n ≡ s → IsStateOf d (has (cleared_to v to) n) s → Asks v to n
state_asks v to n d there asked uncleared kept None state offer = absurd offer
state_asks v to n d there asked uncleared kept (Some (Asked body)) state offer =
    record { departure = d; body = body; there = there; asked = asked; state = state; offer = offer }
state_asks v to n d there asked uncleared kept (Some (Cleared cut)) state offer =
    absurd (true≢false (sym offer.2 ∙ uncleared))
state_asks v to n d there asked uncleared kept (Some Out) state offer =
    absurd (true≢false (sym offer.0 ∙ uncleared))
state_asks v to n d there asked uncleared kept (Some Withdrawn) state offer =
    absurd (true≢false (sym offer.2 ∙ kept))

pub asks : (me ranks : ℕ) (v : SendingView) → TablesAgree me ranks v → (to n : ℕ) → MayBeCleared v to n
    → Asks v to n
asks me ranks v tables to n may = by_there (departure_of v to n) refl where
  by_there : (o : Option Departure) → departure_of v to n ≡ o → Asks v to n
  by_there None none = absurd (true≢false
      (sym (ap (λ (o : Option Departure). passes (λ x. is_ask x.how) o) (sym none)
      ∙ may.messages.asked to n ∙ may.asked)))
  by_there (Some d) there = by_how d.how refl
      (subst (λ (o : Option Departure). IsOffer o (has (cleared_to v to) n) (state_of v.offers to n)) there
      (tables.states to n))
    where
      asked : is_ask d.how ≡ true
      asked = ap (λ (o : Option Departure). passes (λ x. is_ask x.how) o) (sym there)
          ∙ may.messages.asked to n ∙ may.asked

      kept : was_undone true d ≡ false
      kept = ap (λ (o : Option Departure). passes (was_undone true) o) (sym there)
          ∙ may.messages.undone to n true ∙ may.kept

      by_how : (how : How) → d.how ≡ how
          → IsOfferBy how d (has (cleared_to v to) n) (state_of v.offers to n) → Asks v to n
      by_how Eager is offer = absurd (true≢false (sym asked ∙ ap is_ask is))
      by_how Ask is offer = state_asks v to n d there asked may.uncleared kept
          (state_of v.offers to n) refl offer

-- numbers that are apart stay so with a new one
pub apart-push : (ns : List ℕ) (n : ℕ) → AreApart ns → has ns n ≡ false → AreApart (ns ++ n ∷ [])
apart-push [] n apart none = (refl, tt)
apart-push (m ∷ ns) n apart none = (
  has-append ns (n ∷ []) m ∙ rw (apart.0, other (m == n) (n == m) (eq_swap m n) (has ns n) none) refl,
  apart-push ns n apart.1 (later (m == n) (has ns n) none),
)
  where
    other : (x y : Bool) → x ≡ y → (z : Bool) → (x || z) ≡ false → y ≡ false
    other true y same z h = absurd (true≢false h)
    other false y same z h = sym same

    later : (x z : Bool) → (x || z) ≡ false → z ≡ false
    later true z h = absurd (true≢false h)
    later false z h = h

-- the state of a cleared message, by its body
pub cleared_state : (P : State → Type 0) (body : Body) (b : Bool) → (body_len body == 0) ≡ b
    → (b ≡ true → P Out) → (b ≡ false → P (Cleared (record { body = body; popped = 0 })))
    → P (leaving_or_out (start_of body))
cleared_state P body true is out left =
    subst (λ (x : Bool). P (leaving_or_out (cond x None (Some (record { body = body; popped = 0 })))))
    (sym is) (out refl)
cleared_state P body false is out left =
    subst (λ (x : Bool). P (leaving_or_out (cond x None (Some (record { body = body; popped = 0 })))))
    (sym is) (left refl)

module _ (me ranks : ℕ) (old : SendingView) (tables : TablesAgree me ranks old) (to n : ℕ) (within : to < ranks)
    (ask : Asks old to n) (rows : List (List Departure)) (staying : ℕ) where
  inside : to < length old.offers.destinations
  inside = omega (arith, within, tables.offers)

  abbrev pub after-clear : SendingView
  after-clear = record {
    outbox = old.outbox;
    offers = with_clearance old.offers to n;
    departures = rows;
    pushed = old.pushed;
    staying = staying;
  }

  abbrev next : State
  next = leaving_or_out (start_of ask.body)

  abbrev d'' : Destined
  d'' = with_step (destined old.offers to) n after_clearance

  none : has (cleared_to old to) n ≡ false
  none = ask.offer.2

  states : (t k : ℕ) → state_of after-clear.offers t k
      ≡ cond (is_at to n t k) (Some next) (state_of old.offers t k)
  states = states-change old.offers.destinations to inside d'' n next
      (state-stepped (destined old.offers to) n after_clearance (Asked ask.body) ask.state)

  leaves-after : (t k : ℕ) → leaves after-clear.offers.destinations (t, k)
      ≡ cond (is_at to n t k) (is_leaving next) (leaves old.offers.destinations (t, k))
  leaves-after t k = ap (λ (s : Option State). option_map_or is_leaving s false) (states t k)
      ∙ by_test (is_at to n t k)
    where
      by_test : (b : Bool) → option_map_or is_leaving (cond b (Some next) (state_of old.offers t k)) false
          ≡ cond b (is_leaving next) (leaves old.offers.destinations (t, k))
      by_test true = refl
      by_test false = refl

  cleared-after : (t : ℕ) → cleared_to after-clear t ≡ cleared_to old t ++ cond (to == t) (n ∷ []) []
  cleared-after t = numbers-push t old.offers.order (to, n)

  has-after : (t k : ℕ) → has (cleared_to after-clear t) k
      ≡ (has (cleared_to old t) k || (is_at to n t k && true))
  has-after t k =
      ap (λ (ns : List ℕ). has ns k) (cleared-after t)
      ∙ has-append (cleared_to old t) (cond (to == t) (n ∷ []) []) k
      ∙ ap (λ (b : Bool). has (cleared_to old t) k || b) (by_test (to == t) (n == k))
    where
      by_last : (c : Bool) → (c || false) ≡ (c && true)
      by_last true = refl
      by_last false = refl

      by_test : (b c : Bool) → has (cond b (n ∷ []) []) k ≡ (((b && n == k) && true))
      by_test true c = by_last (n == k)
      by_test false c = refl

  once : (t : ℕ) → AreApart (cleared_to after-clear t)
  once t = subst (λ (ns : List ℕ). AreApart ns) (sym (cleared-after t)) (by_test (to == t) refl) where
    by_test : (b : Bool) → (to == t) ≡ b → AreApart (cleared_to old t ++ cond b (n ∷ []) [])
    by_test true is = subst (λ (k : ℕ). AreApart (cleared_to old k ++ n ∷ [])) (same_number to t is)
        (apart-push (cleared_to old to) n (tables.once to) none)
    by_test false is = subst (λ (ns : List ℕ). AreApart ns) (sym (append-nil (cleared_to old t)))
        (tables.once t)

  less : allowed d'' ≤ allowed (destined old.offers to)
  less =
      let one = allowed-step (destined old.offers to) n after_clearance (Asked ask.body) ask.state in
      let few : allowance next ≤ 1024 =
      cleared_state (λ s. allowance s ≤ 1024) ask.body (body_len ask.body == 0) refl
      (λ e. omega arith) (λ e. omega arith) in
      omega (arith, one, few)

  module _ (d : Departure) (change : Change old after-clear to n ask.departure d)
      (how : d.how ≡ ask.departure.how) (recalled : d.recalled ≡ ask.departure.recalled)
      (undone : d.undone ≡ ask.departure.undone) (here : IsStateOf d true (Some next)) where
    clear-tables : staying + weight ask.departure ≡ old.staying + weight d → TablesAgree me ranks after-clear
    clear-tables counted =
        tables-change old after-clear to n ask.departure d change me ranks tables refl refl
        (length-set old.offers.destinations to d'') refl
        (λ t. tables.eager t ∙ sym (change-waiting old after-clear to n ask.departure d change
        (asked_waits d (ap is_ask how ∙ ask.asked) ∙ sym (asked_waits ask.departure ask.asked)) t))
        (asked-states me ranks old after-clear tables to n ask.departure d
        (change-steps old after-clear to n ask.departure d change) true next
        (ap is_ask how ∙ ask.asked) states
        has-after
        (subst (λ (c : Bool). IsStateOf d c (Some next)) (sym (or_true (has (cleared_to old to) n))) here))
        once
        (recalls-still me ranks old after-clear tables to n ask.departure d ask.there
        (ap (λ (b : Bool). cond b (Some d.undone) None) recalled
        ∙ ap (λ (o : Option Bool). cond ask.departure.recalled (Some o) None) undone)
        (read-stay recall_in old.offers.destinations to inside d'' (λ q. refl)))
        (ap (λ (b : Bool). not b && is_some d.undone) recalled
        ∙ ap (λ (o : Option Bool). not ask.departure.recalled && is_some o) undone
        ∙ unanswered-at me ranks old tables to n ask.departure ask.there)
        counted
        (λ t. let few = tables.pieces t in
        let fewer = allowed-set old.offers.destinations to inside d'' less t in omega (arith, few, fewer))

  -- what the history says of its body
  pub clear_empty : (h : List Event) → AreSent old h → (body_len ask.body == 0) ≡ is_empty_send h to n
  clear_empty h was =
      ap (λ (x : ℕ). x == 0) ask.offer.0
      ∙ ap (λ (o : Option Departure). passes (λ x. x.len == 0) o) (sym ask.there) ∙ was.empty to n

  turn : (h h' : List Event) → AreSent old h → ((t : ℕ) → sends h' t ≡ sends h t)
      → ((t : ℕ) → pushed_out h' t ≡ pushed_out h t) → InTurn after-clear h'
  turn h h' was same pushed =
      turn-clear old after-clear h h' same was.in_turn to n (is_leaving next) refl pushed none
      (sym (clear_empty h was) ∙ cleared_state (λ s. (body_len ask.body == 0) ≡ not (is_leaving s)) ask.body
      (body_len ask.body == 0) refl (λ e. e) (λ e. e))
      leaves-after

  -- a message with a body is going to leave in pieces
  module _ (full : (body_len ask.body == 0) ≡ false) (same : rows ≡ old.departures) where
    pub full-tables : staying ≡ old.staying → TablesAgree me ranks after-clear
    full-tables counted =
        clear-tables ask.departure (change-none old after-clear to n ask.departure ask.there same) refl refl
        refl
        (cleared_state (λ s. IsStateOf ask.departure true (Some s)) ask.body false full
        (λ e. absurd (true≢false (sym e)))
        (λ e. (
          ask.offer.0,
          ask.offer.1,
          refl,
          ask.offer.3,
          has_bytes
              (body_len ask.body) ask.departure.len ask.offer.0 full,
          ask.offer.4,
        )))
        (omega (arith, counted))
      where
        has_bytes : (x len : ℕ) → x ≡ len → (x == 0) ≡ false → 1024 * 0 < len
        has_bytes x len is more = grind (arith, nat_tests)

    pub full-kept : Preserves old after-clear []
    full-kept = keeps-none old after-clear (λ h was.
        sent-offers old after-clear h same (turn h h was (λ t. refl) (λ t. refl)) was)

  -- an empty one has left
  module _ (empty : (body_len ask.body == 0) ≡ true)
      (now : rows ≡ with_departure old.departures to n (record ask.departure { out = true })) where
    empty-change : Change old after-clear to n ask.departure (record ask.departure { out = true })
    empty-change = record {
      inside = row_there old.departures to n ask.departure ask.there;
      there = ask.there;
      rows = now;
    }

    pub empty-counted : 0 < old.staying
    empty-counted =
        out-counted old after-clear to n ask.departure
        (record ask.departure { out = true }) empty-change me ranks tables
        ask.offer.3 refl

    pub empty-tables : staying + 1 ≡ old.staying → TablesAgree me ranks after-clear
    empty-tables counted =
        clear-tables (record ask.departure { out = true }) empty-change refl refl refl
        (cleared_state (λ s. IsStateOf (record ask.departure { out = true }) true (Some s)) ask.body true
        empty
        (λ e. (refl, refl)) (λ e. absurd (true≢false e)))
        (let in' : weight ask.departure ≡ 1 = ap (λ (b : Bool). cond (not b) 1 0) ask.offer.3 in
        omega (arith, in', counted))

    pub empty-kept : Preserves old after-clear (event.Out to n ∷ [])
    empty-kept = keeps-one old after-clear (event.Out to n) (λ h stamp was.
        let e : Event = at stamp (event.Out to n) in
        let none' : is_empty_send h to n ≡ true = sym (clear_empty h was) ∙ empty in (
          sent-out old after-clear to n ask.departure (record ask.departure { out = true }) h stamp
              (change-steps old after-clear to n ask.departure
              (record ask.departure { out = true }) empty-change)
              (change-lens old after-clear to n ask.departure
              (record ask.departure { out = true }) empty-change)
              refl refl was refl refl refl
              (turn h (h ++ e ∷ []) was (λ t. sends-same h e t refl)
              (λ t. pushed_out-same h e t (sends-same h e t refl)
              (left_none h to n t (ap (λ (b : Bool). is_asked (sends h to) n && not b) none'
              ∙ and_false (is_asked (sends h to) n))))),
          λ ranks. right-out old h to n ranks ask.departure ask.there ask.offer.3 was,
        ))
      where
        and_false : (b : Bool) → (b && false) ≡ false
        and_false true = refl
        and_false false = refl

-- it leaves at once where it is empty
pub at_once : (v : SendingView) (to n : ℕ) (ask : Asks v to n) (r : Bool)
    → IsTrue r ↔ (asked_len v.offers to n ≡ 0)
    → (body_len ask.body == 0) ≡ r
at_once v to n ask r is =
    by_test r is (ap (λ (o : Option State). option_map_or len_of o 0) ask.state)
  where
    by_test : (r : Bool) → IsTrue r ↔ (asked_len v.offers to n ≡ 0) → asked_len v.offers to n
        ≡ body_len ask.body
        → (body_len ask.body == 0) ≡ r
    by_test true is many = let none : asked_len v.offers to n
        ≡ 0 = is.0 refl in eq_true (body_len ask.body) 0 (sym many ∙ none)
    by_test false is many = refuted (body_len ask.body == 0)
        (λ e. sym (is.1 (many ∙ same_number (body_len ask.body) 0 e)))

-- what is so of the tables after a clearance, as the call left them
pub cleared_view : (P : SendingView → Type 0) (old : SendingView) (to n : ℕ) (rows : List (List Departure))
    (staying : ℕ) (offers : Offering) → offers ≡ with_clearance old.offers to n
    → P (record old { offers = with_clearance old.offers to n; departures = rows; staying = staying })
    → P (record old { offers = offers; departures = rows; staying = staying })
cleared_view P old to n rows staying offers cleared p =
    subst (λ (x : Offering). P (record old { offers = x; departures = rows; staying = staying }))
    (sym cleared) p
