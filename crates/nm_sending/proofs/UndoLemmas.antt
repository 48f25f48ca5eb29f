-- The answer to a recall comes back.
use Rattle.std.proofs.Common.{◌≡◌, ℕ, ◌<◌, ◌≤◌, ◌==◌, Bool, true, false, not, ◌&&◌, ◌||◌, cond}
use Rattle.std.proofs.Common.{Option, Some, None, List, [], ◌∷◌, ◌++◌, length, is_some}
use Rattle.std.proofs.Common.{refl, sym, nat_eq, sum_by}
use Rattle.std.specs.Map.{lookup, set_value, values_of}
use Rattle.std.proofs.Common.{◌∙◌, ap, subst, arith, true≢false}
use Rattle.std.specs.Prelude.{option_and_then}
use Rattle.std.specs.Option.{option_map_or, option_map}
use Rattle.std.proofs.lemmas.List.{length-set}
use Rattle.nm_types.specs.declared.messages.How.{How}
use Rattle.nm_types.specs.declared.messages.How.TheVariants.{Eager, Ask}
use Rattle.nm_history.specs.declared.events.Event.{Event}
use Rattle.nm_history.specs.declared.events.Happened.TheVariants.{Undone}
use Rattle.nm_history.specs.Happens.{at, happened, is_recall, is_same, is_undone}
use Rattle.nm_history.proofs.Basic.{or_false}
use Rattle.nm_history.specs.Continues.{has}
use Rattle.nm_rndv.specs.declared.asked.State.{State}
use Rattle.nm_rndv.specs.declared.asked.State.TheVariants.{Asked, Cleared, Out, Withdrawn}
use Rattle.nm_rndv.specs.Offers.{Destined, destined, state_of, state_in}
use Rattle.nm_rndv.specs.Offers.{recall_in, leaves, is_leaving}
use Rattle.nm_rndv.specs.Offers.{with_destined, with_answer, after_withdrawal}
use Rattle.nm_rndv.specs.Offers.{is_unanswered, is_recalled}
use Rattle.nm_rndv.specs.Offers.{cleared_at, was_cleared}
use Rattle.nm_rndv.proofs.StateLemmas.{withdrawal_leaves}
use Rattle.nm_sending.specs.declared.departures.Departure.{Departure}
use Rattle.nm_sending.specs.Departures.{SendingView, with_departure, departure_of, passes, cleared_to}
use Rattle.nm_sending.specs.Departures.{was_undone}
use Rattle.nm_sending.specs.Sent.{AreSent, Preserves, MayBeAnswered}
use Rattle.nm_sending.specs.Tables.{TablesAgree, IsOffer, IsOfferBy, allowance, allowed, recall_of}
use Rattle.nm_sending.proofs.EventLemmas.{sends-same, pushed_out-same}
use Rattle.nm_sending.proofs.LeavingLemmas.{turn-still}
use Rattle.nm_sending.proofs.OfferLemmas.{state-stepped, read-change}
use Rattle.nm_sending.proofs.OfferLemmas.{recall-answered}
use Rattle.nm_sending.proofs.OfferLemmas.{allowed-set}
use Rattle.nm_sending.proofs.PieceLemmas.{allowed-step}
use Rattle.nm_sending.proofs.SentLemmas.{keeps-one, right-undone, sent-undone}
use Rattle.nm_sending.proofs.TableLemmas.{Change, change-steps, change-lens, change-waiting, row_there}
use Rattle.nm_sending.proofs.TableLemmas.{tables-change, states-step, or_nothing, is_at, at_place}
use Rattle.nm_types.proofs.NumberLemmas.{same_number}

-- a message that was recalled, and whose recall has no answer
pub record Recalled (v : SendingView) (to n : ℕ) (done : Bool) : Type 0 where
  pub departure : Departure
  pub there : departure_of v to n ≡ Some departure
  pub recalled : departure.recalled ≡ true
  pub none : departure.undone ≡ None
  pub uncleared : (done && has (cleared_to v to) n) ≡ false

pub is_recall_open : (v : SendingView) (to n : ℕ) (done : Bool) → MayBeAnswered v to n done
    → Recalled v to n done
is_recall_open v to n done may = by_there (departure_of v to n) refl where
  by_there : (o : Option Departure) → departure_of v to n ≡ o → Recalled v to n done
  by_there None none = absurd (true≢false
      (sym (ap (λ (o : Option Departure). passes (λ x. x.recalled) o) (sym none)
      ∙ may.messages.recalled to n ∙ may.recalled)))
  by_there (Some d) there = record {
    departure = d;
    there = there;
    recalled = ap (λ (o : Option Departure). passes (λ x. x.recalled) o) (sym there)
        ∙ may.messages.recalled to n ∙ may.recalled;
    none = is_none d.undone (λ other. ap (λ (o : Option Departure). passes (was_undone other) o) (sym there)
        ∙ may.messages.undone to n other ∙ may.no_answer other);
    uncleared = may.uncleared;
  }
    where
      is_none : (o : Option Bool) → ((other : Bool) → option_map_or (is_same other) o false ≡ false) → o
          ≡ None
      is_none None each = refl
      is_none (Some true) each = absurd (true≢false (each true))
      is_none (Some false) each = absurd (true≢false (each false))

-- a recall without an answer, by what became of its message
open_by : (recalled : Bool) (undone : Option Bool)
    → option_map_or is_unanswered (cond recalled (Some undone) None) false
    ≡ (recalled && not (option_map_or (is_same true) undone false || option_map_or (is_same false) undone false))
open_by true None = refl
open_by true (Some true) = refl
open_by true (Some false) = refl
open_by false _ = refl

unanswered_is : (o : Option Departure)
    → option_map_or is_unanswered (option_and_then recall_of o) false
    ≡ (passes (λ d. d.recalled) o && not (passes (was_undone true) o || passes (was_undone false) o))
unanswered_is None = refl
unanswered_is (Some d) = open_by d.recalled d.undone

-- and by what happened
pub awaits_is : (me ranks : ℕ) (v : SendingView) → TablesAgree me ranks v → (h : List Event) → AreSent v h
    → (to n : ℕ) → is_recalled v.offers to n
    ≡ (happened (is_recall to n) h && not (happened (is_undone to n true) h || happened (is_undone to n false) h))
awaits_is me ranks v tables h was to n =
    let o = departure_of v to n in
    ap (λ (r : Option (Option Bool)). option_map_or is_unanswered r false) (tables.recalls to n)
    ∙ unanswered_is o
    ∙ ap (λ (b : Bool). b && not (passes (was_undone true) o || passes (was_undone false) o)) (was.recalled to n)
    ∙ ap (λ (b : Bool). happened (is_recall to n) h && not (b || passes (was_undone false) o))
    (was.undone to n true)
    ∙ ap (λ (b : Bool). happened (is_recall to n) h && not (happened (is_undone to n true) h || b))
    (was.undone to n false)

-- the state after the answer
abbrev pub answered_state : Bool → State → State
answered_state done s = cond done (after_withdrawal s) s

-- an answer changes the state as it should
offer-answered : (how : How) (d : Departure) (done c : Bool) (s : Option State) → d.undone ≡ None
    → (done && c) ≡ false → IsOfferBy how d c s
    → IsOfferBy how (record d { undone = Some done }) c (option_map (answered_state done) s)
offer-answered Eager d done c s none uncleared offer =
    (offer.0, ap (λ (o : Option State). option_map (answered_state done) o) offer.1)
offer-answered Ask d done c None none uncleared offer = absurd offer
offer-answered Ask d true c (Some (Asked body)) none uncleared offer = (offer.2, offer.3, refl)
offer-answered Ask d false c (Some (Asked body)) none uncleared offer =
    (offer.0, offer.1, offer.2, offer.3, refl)
offer-answered Ask d true c (Some (Cleared cut)) none uncleared offer =
    absurd (true≢false (sym offer.2 ∙ uncleared))
offer-answered Ask d false c (Some (Cleared cut)) none uncleared offer =
    (offer.0, offer.1, offer.2, offer.3, offer.4, refl)
offer-answered Ask d true c (Some Out) none uncleared offer = absurd (true≢false (sym offer.0 ∙ uncleared))
offer-answered Ask d false c (Some Out) none uncleared offer = offer
offer-answered Ask d done c (Some Withdrawn) none uncleared offer =
    absurd (true≢false (sym offer.2 ∙ ap (λ (o : Option Bool). option_map_or (is_same true) o false) none))

-- a message that was cleared is not withdrawn
offer_uncleared : (how : How) (d : Departure) (s : Option State) → IsOfferBy how d false s
    → option_map_or was_cleared s false ≡ false
offer_uncleared Eager d s offer = ap (λ (o : Option State). option_map_or was_cleared o false) offer.1
offer_uncleared Ask d None offer = refl
offer_uncleared Ask d (Some (Asked body)) offer = refl
offer_uncleared Ask d (Some (Cleared cut)) offer = absurd (true≢false (sym offer.2))
offer_uncleared Ask d (Some Out) offer = absurd (true≢false (sym offer.0))
offer_uncleared Ask d (Some Withdrawn) offer = refl

answer_allows : (done : Bool) (s : State) → allowance (answered_state done s) ≤ allowance s
answer_allows true (Asked body) = omega arith
answer_allows true (Cleared cut) = omega arith
answer_allows true Out = omega arith
answer_allows true Withdrawn = omega arith
answer_allows false s = omega arith

answer_leaves : (done : Bool) (s : State) → is_leaving (answered_state done s) ≡ is_leaving s
answer_leaves true s = withdrawal_leaves s
answer_leaves false s = refl

-- what one number does not change
here_same : {X : Type 0} (f : ℕ → X) (n q : ℕ) (x : X) → f n ≡ x → f q ≡ cond (n == q) x (f q)
here_same f n q x is = by_test (n == q) refl where
  by_test : (b : Bool) → (n == q) ≡ b → f q ≡ cond b x (f q)
  by_test true e = ap f (sym (same_number n q e)) ∙ is
  by_test false e = refl

-- a message that was not asked for is not withdrawn among those that were
answer-none : (d : Destined) (n : ℕ) → state_in d n ≡ None → (with_answer d n true).asked ≡ d.asked
answer-none d n was = ap (λ (o : Option State).
    option_map_or (λ s. set_value (nat_eq n) d.asked (after_withdrawal s)) o d.asked) was

-- the states of a destination after an answer
answer-states : (d : Destined) (n : ℕ) (done : Bool) (o : Option State) → state_in d n ≡ o → (q : ℕ)
    → state_in (with_answer d n done) q ≡ cond (n == q) (option_map (answered_state done) o) (state_in d q)
answer-states d n true None was q =
    ap (λ (es : List (ℕ × State)). lookup (nat_eq q) es) (answer-none d n was)
    ∙ here_same (λ k. state_in d k) n q None was
answer-states d n true (Some s) was q = state-stepped d n after_withdrawal s was q
answer-states d n false None was q = here_same (λ k. state_in d k) n q None was
answer-states d n false (Some s) was q = here_same (λ k. state_in d k) n q (Some s) was

answer-allowed : (d : Destined) (n : ℕ) (done : Bool) (o : Option State) → state_in d n ≡ o
    → allowed (with_answer d n done) ≤ allowed d
answer-allowed d n true None was =
    subst (λ (es : List (ℕ × State)). sum_by allowance (values_of es) ≤ allowed d) (sym (answer-none d n was))
    (omega arith)
answer-allowed d n true (Some s) was =
    let one = allowed-step d n after_withdrawal s was in
    let less = answer_allows true s in
    omega (arith, one, less)
answer-allowed d n false o was = omega arith

module _ (me ranks : ℕ) (old : SendingView) (tables : TablesAgree me ranks old) (to n : ℕ) (within : to < ranks)
    (done : Bool) (open' : Recalled old to n done) where
  -- its recall waits for the answer
  pub is_open : is_recalled old.offers to n ≡ true
  is_open = ap (λ (o : Option (Option Bool)). option_map_or is_unanswered o false)
      (tables.recalls to n ∙ ap (λ (o : Option Departure). option_and_then recall_of o) open'.there
      ∙ ap (λ (b : Bool). cond b (Some open'.departure.undone) None) open'.recalled
      ∙ ap (λ (o : Option Bool). Some o) open'.none)

  offer : IsOfferBy open'.departure.how open'.departure (has (cleared_to old to) n) (state_of old.offers to n)
  offer = subst (λ (o : Option Departure). IsOffer o (has (cleared_to old to) n) (state_of old.offers to n))
      open'.there (tables.states to n)

  pub not_cleared : done ≡ true → cleared_at old.offers.destinations (to, n) ≡ false
  not_cleared is =
      let none : has (cleared_to old to) n ≡ false =
      ap (λ (b : Bool). b && has (cleared_to old to) n) (sym is) ∙ open'.uncleared in
      offer_uncleared open'.departure.how open'.departure (state_of old.offers to n)
      (subst (λ (c : Bool). IsOfferBy open'.departure.how open'.departure c (state_of old.offers to n)) none
      offer)

  module _ (rows : List (List Departure))
      (now : rows ≡ with_departure old.departures to n (record open'.departure { undone = Some done })) where
    inside : to < length old.offers.destinations
    inside = omega (arith, within, tables.offers)

    abbrev d'' : Destined
    d'' = with_answer (destined old.offers to) n done

    abbrev d' : Departure
    d' = record open'.departure { undone = Some done }

    abbrev next : Option State
    next = option_map (answered_state done) (state_of old.offers to n)

    abbrev pub after-undo : SendingView
    after-undo = record {
      outbox = old.outbox;
      offers = with_destined old.offers to (with_answer (destined old.offers to) n done);
      departures = rows;
      pushed = old.pushed;
      staying = old.staying;
    }

    change : Change old after-undo to n open'.departure d'
    change = record {
      inside = row_there old.departures to n open'.departure open'.there;
      there = open'.there;
      rows = now;
    }

    states : (t k : ℕ) → state_of after-undo.offers t k ≡ cond (is_at to n t k) next (state_of old.offers t k)
    states = read-change state_in old.offers.destinations to inside d'' n next
        (answer-states (destined old.offers to) n done (state_of old.offers to n) refl)

    pub undo-tables : TablesAgree me ranks after-undo
    undo-tables =
        tables-change old after-undo to n open'.departure d' change me ranks tables refl refl
        (length-set old.offers.destinations to d'') refl
        (λ t. tables.eager t ∙ sym (change-waiting old after-undo to n open'.departure d' change refl t))
        (states-step old after-undo to n (Some open'.departure) d'
        (change-steps old after-undo to n open'.departure d' change) next false states
        (λ t k. or_nothing (has (cleared_to old t) k) (is_at to n t k))
        (subst (λ (c : Bool). IsOffer (Some d') c next) (sym (or_false (has (cleared_to old to) n)))
        (offer-answered open'.departure.how open'.departure done (has (cleared_to old to) n)
        (state_of old.offers to n) open'.none open'.uncleared offer))
        tables.states)
        tables.once
        (read-change recall_in old.offers.destinations to inside d'' n (recall_of d')
        (λ q. recall-answered (destined old.offers to) n done
        (ap (λ (o : Option (Option Bool)). is_some o)
        (tables.recalls to n ∙ ap (λ (o : Option Departure). option_and_then recall_of o) open'.there
        ∙ ap (λ (b : Bool). cond b (Some open'.departure.undone) None) open'.recalled)) q
        ∙ ap (λ (b : Bool). cond (n == q) (cond b (Some (Some done)) None)
        (recall_in (destined old.offers to) q))
        (sym open'.recalled)))
        (ap (λ (b : Bool). not b && true) open'.recalled) refl
        (λ t. let few = tables.pieces t in
        let fewer = allowed-set old.offers.destinations to inside d''
        (answer-allowed (destined old.offers to) n done (state_of old.offers to n) refl) t in
        omega (arith, few, fewer))

    still : (t k : ℕ) → leaves after-undo.offers.destinations (t, k) ≡ leaves old.offers.destinations (t, k)
    still t k = ap (λ (s : Option State). option_map_or is_leaving s false) (states t k)
        ∙ by_test (is_at to n t k) refl
      where
        leaving-same : (o : Option State)
            → option_map_or is_leaving (option_map (answered_state done) o) false
            ≡ option_map_or is_leaving o false
        leaving-same None = refl
        leaving-same (Some s) = answer_leaves done s

        by_test : (b : Bool) → is_at to n t k ≡ b
            → option_map_or is_leaving (cond b next (state_of old.offers t k)) false
            ≡ leaves old.offers.destinations (t, k)
        by_test true is = leaving-same (state_of old.offers to n)
            ∙ at_place (λ t k. leaves old.offers.destinations (t, k)) to n t k is
        by_test false is = refl

    pub undo-kept : Preserves old after-undo (Undone to n done ∷ [])
    undo-kept = keeps-one old after-undo (Undone to n done) (λ h stamp was.
        let e : Event = at stamp (Undone to n done) in (
          sent-undone old after-undo to n open'.departure d' h stamp
              (change-steps old after-undo to n open'.departure d' change)
              (change-lens old after-undo to n open'.departure d' change) refl refl was done open'.none refl
              refl refl
              (turn-still old after-undo h (h ++ e ∷ []) (λ t. sends-same h e t refl) was.in_turn refl
              (λ t. pushed_out-same h e t (sends-same h e t refl) refl) still),
          λ ranks. right-undone old h to n ranks done open'.departure open'.there open'.recalled open'.none
              was,
        ))
