-- The receiver of a message is asked to withdraw it.
use Rattle.std.proofs.Common.{◌≡◌, ℕ, ◌<◌, ◌==◌, Bool, true, false, not, ◌&&◌, cond}
use Rattle.std.proofs.Common.{Option, Some, None, List, [], ◌∷◌, ◌++◌, length, is_some, refl, sym}
use Rattle.std.proofs.Common.{◌∙◌, ap, subst, arith, true≢false}
use Rattle.std.specs.Prelude.{option_and_then}
use Rattle.std.specs.Option.{option_map_or}
use Rattle.std.proofs.lemmas.List.{length-set}
use Rattle.nm_types.specs.declared.messages.How.{How}
use Rattle.nm_types.specs.declared.messages.How.TheVariants.{Eager, Ask}
use Rattle.nm_history.specs.declared.events.Event.{Event}
use Rattle.nm_history.specs.declared.events.Happened.TheVariants.{Recall}
use Rattle.nm_history.proofs.Basic.{or_false}
use Rattle.nm_history.specs.Continues.{has}
use Rattle.nm_history.specs.Happens.{at}
use Rattle.nm_rndv.specs.declared.asked.State.{State}
use Rattle.nm_rndv.specs.declared.asked.State.TheVariants.{Asked, Cleared, Out, Withdrawn}
use Rattle.nm_rndv.specs.Offers.{Destined, destined, state_of}
use Rattle.nm_rndv.specs.Offers.{recall_in, is_leaving}
use Rattle.nm_rndv.specs.Offers.{with_destined, with_recall}
use Rattle.nm_sending.specs.Outboxes.{OutboxView}
use Rattle.nm_sending.specs.declared.departures.Departure.{Departure}
use Rattle.nm_sending.specs.Departures.{SendingView, with_departure, departure_of, passes}
use Rattle.nm_sending.specs.Departures.{cleared_to, ends_to}
use Rattle.nm_sending.specs.Sent.{Preserves, MayBeRecalled}
use Rattle.nm_sending.specs.Tables.{TablesAgree, IsOffer, IsOfferBy, recall_of}
use Rattle.nm_sending.proofs.EventLemmas.{sends-same, pushed_out-same}
use Rattle.nm_sending.proofs.LeavingLemmas.{turn-still}
use Rattle.nm_sending.proofs.OfferLemmas.{states-stay, read-change, recall-recalled, allowed-set}
use Rattle.nm_sending.proofs.SentLemmas.{keeps-one, right-recall, sent-recall}
use Rattle.nm_sending.proofs.TableLemmas.{Change, change-steps, change-lens, change-waiting, row_there}
use Rattle.nm_sending.proofs.TableLemmas.{tables-change, states-step, unanswered-at, unchanged}
use Rattle.nm_sending.proofs.TableLemmas.{or_nothing, is_at}

-- a message that was sent and not recalled
pub record Unrecalled (v : SendingView) (to n : ℕ) : Type 0 where
  pub departure : Departure
  pub there : departure_of v to n ≡ Some departure
  pub new : departure.recalled ≡ false

pub unrecalled : (v : SendingView) (to n : ℕ) → MayBeRecalled v to n → Unrecalled v to n
unrecalled v to n may = by_there (departure_of v to n) refl where
  by_there : (o : Option Departure) → departure_of v to n ≡ o → Unrecalled v to n
  by_there None none = absurd (true≢false (sym (ap (λ (o : Option Departure). is_some o) (sym none)
      ∙ may.messages.sent to n ∙ may.sent)))
  by_there (Some d) there = record {
    departure = d;
    there = there;
    new = ap (λ (o : Option Departure). passes (λ x. x.recalled) o) (sym there)
        ∙ may.messages.recalled to n ∙ may.new;
  }

-- a recall changes nothing of its state
offer-recalled : (how : How) (d : Departure) (c : Bool) (s : Option State) → IsOfferBy how d c s
    → IsOfferBy how (record d { recalled = true }) c s
offer-recalled Eager d c s offer = offer
offer-recalled Ask d c None offer = offer
offer-recalled Ask d c (Some (Asked body)) offer = offer
offer-recalled Ask d c (Some (Cleared cut)) offer = offer
offer-recalled Ask d c (Some Out) offer = offer
offer-recalled Ask d c (Some Withdrawn) offer = offer

module _ (me ranks : ℕ) (old : SendingView) (tables : TablesAgree me ranks old) (to n : ℕ) (within : to < ranks)
    (un : Unrecalled old to n) where
  -- it has no recall yet
  pub no_recall : recall_in (destined old.offers to) n ≡ None
  no_recall = tables.recalls to n ∙ ap (λ (o : Option Departure). option_and_then recall_of o) un.there
      ∙ ap (λ (b : Bool). cond b (Some un.departure.undone) None) un.new

  no_answer : un.departure.undone ≡ None
  no_answer = is_none un.departure.undone
      (ap (λ (b : Bool). not b && is_some un.departure.undone) (sym un.new)
      ∙ unanswered-at me ranks old tables to n un.departure un.there)
    where
      is_none : (o : Option Bool) → is_some o ≡ false → o ≡ None
      is_none None h = refl
      is_none (Some b) h = absurd (true≢false h)

  module _ (outbox : OutboxView) (rows : List (List Departure))
      (now : rows ≡ with_departure old.departures to n (record un.departure { recalled = true })) where
    inside : to < length old.offers.destinations
    inside = omega (arith, within, tables.offers)

    abbrev d'' : Destined
    d'' = with_recall (destined old.offers to) n

    abbrev d' : Departure
    d' = record un.departure { recalled = true }

    abbrev pub after-recall : SendingView
    after-recall = record {
      outbox = outbox;
      offers = with_destined old.offers to (with_recall (destined old.offers to) n);
      departures = rows;
      pushed = old.pushed;
      staying = old.staying;
    }

    change : Change old after-recall to n un.departure d'
    change = record {
      inside = row_there old.departures to n un.departure un.there;
      there = un.there;
      rows = now;
    }

    recall-states : (t k : ℕ) → state_of after-recall.offers t k ≡ state_of old.offers t k
    recall-states = states-stay old.offers.destinations to inside d'' (λ q. refl)

    pub recall-tables : outbox.me ≡ old.outbox.me → length outbox.popped ≡ length old.outbox.popped
        → ((t : ℕ) → ends_to t outbox.letters ≡ ends_to t old.outbox.letters)
        → TablesAgree me ranks after-recall
    recall-tables own letters ends =
        tables-change old after-recall to n un.departure d' change me ranks tables own letters
        (length-set old.offers.destinations to d'') refl
        (λ t. ends t ∙ tables.eager t ∙ sym
        (change-waiting old after-recall to n un.departure d' change refl t))
        (states-step old after-recall to n (Some un.departure) d'
        (change-steps old after-recall to n un.departure d' change) (state_of old.offers to n) false
        (λ t k. recall-states t k ∙ unchanged (λ t k. state_of old.offers t k) to n t k)
        (λ t k. or_nothing (has (cleared_to old t) k) (is_at to n t k))
        (subst (λ (c : Bool). IsOffer (Some d') c (state_of old.offers to n))
        (sym (or_false (has (cleared_to old to) n)))
        (offer-recalled un.departure.how un.departure (has (cleared_to old to) n) (state_of old.offers to n)
        (subst (λ (o : Option Departure). IsOffer o (has (cleared_to old to) n) (state_of old.offers to n))
        un.there (tables.states to n))))
        tables.states)
        tables.once
        (read-change recall_in old.offers.destinations to inside d'' n (recall_of d')
        (λ q. recall-recalled (destined old.offers to) n no_recall q
        ∙ ap (λ (o : Option Bool). cond (n == q) (Some o) (recall_in (destined old.offers to) q))
        (sym no_answer)))
        refl refl
        (λ t. let few = tables.pieces t in
        let fewer = allowed-set old.offers.destinations to inside d'' (omega arith) t in omega
        (arith, few, fewer))

    pub recall-kept : Preserves old after-recall (Recall to n ∷ [])
    recall-kept = keeps-one old after-recall (Recall to n) (λ h stamp was.
        let e : Event = at stamp (Recall to n) in (
          sent-recall old after-recall to n un.departure d' h stamp
              (change-steps old after-recall to n un.departure d' change)
              (change-lens old after-recall to n un.departure d' change) refl refl was refl refl refl
              (turn-still old after-recall h (h ++ e ∷ []) (λ t. sends-same h e t refl) was.in_turn refl
              (λ t. pushed_out-same h e t (sends-same h e t refl) refl)
              (λ t k. ap (λ (s : Option State). option_map_or is_leaving s false) (recall-states t k))),
          λ ranks. right-recall old h to n ranks un.departure un.there un.new was,
        ))
