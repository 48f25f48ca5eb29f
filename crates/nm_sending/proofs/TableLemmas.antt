-- What the tables of a rank keep, where one message is replaced and where there is one more.
use Rattle.std.proofs.Common.{◌≡◌, ℕ, ◌+◌, ◌*◌, ◌<◌, ◌≤◌, ◌==◌, Bool, true, false, not, ◌&&◌, ◌||◌}
use Rattle.std.proofs.Common.{cond, Option}
use Rattle.std.proofs.Common.{Some, None, List, [], length, is_some, refl, sym}
use Rattle.std.proofs.Common.{◌∙◌, ap, subst}
use Rattle.std.proofs.Common.{sum_by, arith}
use Rattle.std.specs.Prelude.{option_and_then}
use Rattle.std.specs.List.{slice_get}
use Rattle.std.proofs.Common.{true≢false}
use Rattle.std.proofs.Math.ListN.{set}
use Rattle.nm_types.specs.declared.messages.How.{How}
use Rattle.nm_types.specs.declared.messages.How.TheVariants.{Eager, Ask}
use Rattle.nm_history.specs.Sends.{is_ask}
use Rattle.std.proofs.Common.{◌⊎◌, inl, inr}
use Rattle.std.proofs.lemmas.Bool.{cases_lt}
use Rattle.std.proofs.lemmas.List.{get_or_past, length-set, set-get_or}
use Rattle.nm_sending.specs.Outboxes.{OutboxView}
use Rattle.std.proofs.lemmas.Option.{slice_get_within, get_or_from_slice_get}
use Rattle.nm_history.proofs.Basic.{or_false}
use Rattle.nm_history.specs.Continues.{AreApart, has}
use Rattle.nm_rndv.specs.declared.asked.State.{State}
use Rattle.nm_rndv.specs.Offers.{destined, recall_in, state_of}
use Rattle.nm_sending.specs.declared.TheConstants.{MAX_MESSAGES}
use Rattle.nm_sending.specs.declared.departures.Departure.{Departure}
use Rattle.nm_sending.specs.Departures.{SendingView, row_of, with_departure, departures_to}
use Rattle.nm_sending.specs.Departures.{departure_of, passes}
use Rattle.nm_sending.specs.Departures.{pushed_to, cleared_to, ends_to}
use Rattle.nm_sending.specs.Tables.{IsOfferBy, IsStateOf}
use Rattle.nm_sending.specs.Tables.{TablesAgree, IsOffer, allowed, recall_of, waiting_from, waits}
use Rattle.nm_sending.proofs.PlaceLemmas.{Steps, row-set, departure-set, length-departure_set}
use Rattle.nm_sending.proofs.WaitingLemmas.{staying_in, weight, staying-set, waiting-set}
use Rattle.nm_types.proofs.NumberLemmas.{same_number}
use Rattle.nm_types.proofs.TruthLemmas.{and_left, and_right}

-- the place that changes
abbrev pub is_at : ℕ → ℕ → ℕ → ℕ → Bool
is_at to n t k = to == t && n == k

-- what stands at that place
pub at_place : {X : Type 0} (f : ℕ → ℕ → X) (to n t k : ℕ) → is_at to n t k ≡ true → f to n ≡ f t k
at_place f to n t k is =
    ap (λ (x : ℕ). f x n) (same_number to t (and_left (to == t) (n == k) is))
    ∙ ap (λ (x : ℕ). f t x) (same_number n k (and_right (to == t) (n == k) is))

-- what does not change
pub unchanged : {X : Type 0} (f : ℕ → ℕ → X) (to n t k : ℕ)
    → f t k ≡ cond (is_at to n t k) (f to n) (f t k)
unchanged f to n t k = by_test (is_at to n t k) refl where
  by_test : (b : Bool) → is_at to n t k ≡ b → f t k ≡ cond b (f to n) (f t k)
  by_test true is = sym (at_place f to n t k is)
  by_test false is = refl

pub or_nothing : (a b : Bool) → a ≡ (a || (b && false))
or_nothing true true = refl
or_nothing true false = refl
or_nothing false true = refl
or_nothing false false = refl

-- what is so of a changed message and of all others
module _ (old new : SendingView) (to n : ℕ) (o : Option Departure) (d : Departure)
    (step : Steps (departure_of old) (departure_of new) to n o d) where
  pub states-step : (state : Option State) (x : Bool)
      → ((t k : ℕ) → state_of new.offers t k ≡ cond (is_at to n t k) state (state_of old.offers t k))
      → ((t k : ℕ) → has (cleared_to new t) k ≡ (has (cleared_to old t) k || (is_at to n t k && x)))
      → IsOffer (Some d) (has (cleared_to old to) n || x) state
      → ((t k : ℕ) → IsOffer (departure_of old t k) (has (cleared_to old t) k) (state_of old.offers t k))
      → (t k : ℕ) → IsOffer (departure_of new t k) (has (cleared_to new t) k) (state_of new.offers t k)
  states-step state x states cleared here were t k =
      subst (λ (p : Option Departure). IsOffer p (has (cleared_to new t) k) (state_of new.offers t k))
      (sym (step.are t k))
      (subst (λ (c : Bool). IsOffer (cond (is_at to n t k) (Some d) (departure_of old t k)) c
      (state_of new.offers t k))
      (sym (cleared t k))
      (subst (λ (s : Option State). IsOffer (cond (is_at to n t k) (Some d) (departure_of old t k))
      (has (cleared_to old t) k || (is_at to n t k && x)) s) (sym (states t k))
      (by_test (is_at to n t k) refl)))
    where
      by_test : (b : Bool) → is_at to n t k ≡ b
          → IsOffer (cond b (Some d) (departure_of old t k)) (has (cleared_to old t) k || (b && x))
          (cond b state (state_of old.offers t k))
      by_test true is = subst (λ (c : Bool). IsOffer (Some d) (c || x) state)
          (at_place (λ t k. has (cleared_to old t) k) to n t k is) here
      by_test false is = subst (λ (c : Bool). IsOffer (departure_of old t k) c (state_of old.offers t k))
          (sym (or_false (has (cleared_to old t) k))) (were t k)

  pub recalls-step : ((t k : ℕ) → recall_in (destined new.offers t) k
      ≡ cond (is_at to n t k) (recall_of d) (recall_in (destined old.offers t) k))
      → ((t k : ℕ) → recall_in (destined old.offers t) k ≡ option_and_then recall_of (departure_of old t k))
      → (t k : ℕ) → recall_in (destined new.offers t) k ≡ option_and_then recall_of (departure_of new t k)
  recalls-step each were t k = each t k ∙ by_test (is_at to n t k)
      ∙ ap (λ (p : Option Departure). option_and_then recall_of p) (sym (step.are t k))
    where
      by_test : (b : Bool) → cond b (recall_of d) (recall_in (destined old.offers t) k)
          ≡ option_and_then recall_of (cond b (Some d) (departure_of old t k))
      by_test true = refl
      by_test false = were t k

  pub unanswered-step : (f : Departure → Bool) → f d ≡ false
      → ((t k : ℕ) → passes f (departure_of old t k) ≡ false)
      → (t k : ℕ) → passes f (departure_of new t k) ≡ false
  unanswered-step f here were t k =
      ap (λ (p : Option Departure). passes f p) (step.are t k) ∙ by_test (is_at to n t k)
    where
      by_test : (b : Bool) → passes f (cond b (Some d) (departure_of old t k)) ≡ false
      by_test true = here
      by_test false = were t k

-- a message is replaced
pub record Change (old new : SendingView) (to n : ℕ) (d d' : Departure) : Type 0 where
  pub inside : to < length old.departures
  pub there : slice_get (row_of old.departures to) n ≡ Some d
  pub rows : new.departures ≡ with_departure old.departures to n d'

module _ (old new : SendingView) (to n : ℕ) (d d' : Departure) (change : Change old new to n d d') where
  pub change-steps : Steps (departure_of old) (departure_of new) to n (Some d) d'
  change-steps = record {
    was = change.there;
    are = λ t k. ap (λ (rows : List (List Departure)). slice_get (row_of rows t) k) change.rows
        ∙ departure-set old.departures to change.inside n d'
        (slice_get_within (row_of old.departures to) n d change.there) t k;
  }

  pub change-lens : (t : ℕ) → length (departures_to new t) ≡ length (departures_to old t)
  change-lens t = ap (λ (rows : List (List Departure)). length (row_of rows t)) change.rows
      ∙ length-departure_set old.departures to change.inside n d' t

  pub change-row : (t : ℕ) → departures_to new t
      ≡ cond (to == t) (set (row_of old.departures to) n d') (departures_to old t)
  change-row t = ap (λ (rows : List (List Departure)). row_of rows t) change.rows
      ∙ row-set old.departures to t (set (row_of old.departures to) n d') [] change.inside

  -- where it waits as before, those that wait are the same
  pub change-waiting : waits d' ≡ waits d
      → (t : ℕ) → waiting_from 0 (departures_to new t) ≡ waiting_from 0 (departures_to old t)
  change-waiting same t = ap (λ (ds : List Departure). waiting_from 0 ds) (change-row t)
      ∙ by_test (to == t) refl
    where
      by_test : (b : Bool) → (to == t) ≡ b
          → waiting_from 0 (cond b (set (row_of old.departures to) n d') (departures_to old t))
          ≡ waiting_from 0 (departures_to old t)
      by_test true is = waiting-set 0 n (row_of old.departures to) d d' change.there same
          ∙ ap (λ (x : ℕ). waiting_from 0 (row_of old.departures x)) (same_number to t is)
      by_test false is = refl

  module _ (me ranks : ℕ) (tables : TablesAgree me ranks old) where
    pub tables-change : new.outbox.me ≡ old.outbox.me → length new.outbox.popped ≡ length old.outbox.popped
        → length new.offers.destinations ≡ length old.offers.destinations
        → length new.pushed ≡ length old.pushed
        → ((t : ℕ) → ends_to t new.outbox.letters ≡ waiting_from 0 (departures_to new t))
        → ((t k : ℕ) → IsOffer (departure_of new t k) (has (cleared_to new t) k) (state_of new.offers t k))
        → ((t : ℕ) → AreApart (cleared_to new t))
        → ((t k : ℕ) → recall_in (destined new.offers t) k
        ≡ cond (is_at to n t k) (recall_of d') (recall_in (destined old.offers t) k))
        → (not d'.recalled && is_some d'.undone) ≡ false
        → new.staying + weight d ≡ old.staying + weight d'
        → ((t : ℕ) → pushed_to new t + allowed (destined new.offers t) ≤ 1024 * length (departures_to old t))
        → TablesAgree me ranks new
    tables-change own letters offers counts eager states once recalls asked staying pieces = record {
      own = tables.own ∙ sym own;
      letters = letters ∙ tables.letters;
      rows = ap (λ (rows : List (List Departure)). length rows) change.rows
          ∙ length-set old.departures to (set (row_of old.departures to) n d') ∙ tables.rows;
      offers = offers ∙ tables.offers;
      counts = counts ∙ tables.counts;
      eager = eager;
      states = states;
      once = once;
      recalls = recalls-step old new to n (Some d) d' change-steps recalls tables.recalls;
      unanswered = unanswered-step old new to n (Some d) d' change-steps
          (λ x. not x.recalled && is_some x.undone) asked tables.unanswered;
      staying =
          let was : old.staying ≡ sum_by staying_in old.departures = tables.staying in
          let one = staying-set old.departures to n d d' change.inside change.there in
          let now : sum_by staying_in new.departures
          ≡ sum_by staying_in (with_departure old.departures to n d') =
          ap (λ (rows : List (List Departure)). sum_by staying_in rows) change.rows in
          omega (arith, staying, was, one, now);
      few = λ t. subst (λ (k : ℕ). k ≤ MAX_MESSAGES) (sym (change-lens t)) (tables.few t);
      pieces = λ t. subst (λ (k : ℕ). pushed_to new t + allowed (destined new.offers t) ≤ 1024 * k)
          (sym (change-lens t)) (pieces t);
    }

    -- a message that leaves is counted once less
    pub out-counted : d.out ≡ false → d'.out ≡ true → 0 < old.staying
    out-counted before after =
        let one = staying-set old.departures to n d d' change.inside change.there in
        let was : old.staying ≡ sum_by staying_in old.departures = tables.staying in
        let more : weight d ≡ 1 = ap (λ (b : Bool). cond (not b) 1 0) before in
        let less : weight d' ≡ 0 = ap (λ (b : Bool). cond (not b) 1 0) after in
        omega (arith, one, was, more, less)

-- packets that end no message may come and go
pub tables-outbox : (me ranks : ℕ) (old : SendingView) → TablesAgree me ranks old → (outbox : OutboxView)
    → outbox.me ≡ old.outbox.me → length outbox.popped ≡ length old.outbox.popped
    → ((t : ℕ) → ends_to t outbox.letters ≡ ends_to t old.outbox.letters)
    → TablesAgree me ranks (record old { outbox = outbox })
tables-outbox me ranks old tables outbox own letters ends = record {
  own = tables.own ∙ sym own;
  letters = letters ∙ tables.letters;
  rows = tables.rows;
  offers = tables.offers;
  counts = tables.counts;
  eager = λ t. ends t ∙ tables.eager t;
  states = tables.states;
  once = tables.once;
  recalls = tables.recalls;
  unanswered = tables.unanswered;
  staying = tables.staying;
  few = tables.few;
  pieces = tables.pieces;
}

-- a message that is there is of one of the ranks
pub row_there : (rows : List (List Departure)) (to n : ℕ) (d : Departure)
    → slice_get (row_of rows to) n ≡ Some d → to < length rows
row_there rows to n d there = by_place (cases_lt to (length rows)) where
  by_place : (to < length rows) ⊎ (length rows ≤ to) → to < length rows
  by_place (inl inside) = inside
  by_place (inr past) =
      let none : slice_get (row_of rows to) n ≡ None =
      ap (λ (ds : List Departure). slice_get ds n) (get_or_past rows to [] past) in
      absurd (elim_none (sym there ∙ none))
    where
      elim_none : Some d ≡ None → ⊥
      elim_none e = cc

-- a message that stays as it is
pub change-none : (old new : SendingView) (to n : ℕ) (d : Departure) → departure_of old to n ≡ Some d
    → new.departures ≡ old.departures → Change old new to n d d
change-none old new to n d there same = record {
  inside = row_there old.departures to n d there;
  there = there;
  rows = same ∙ sym (ap (λ (row : List Departure). set old.departures to row)
      (ap (λ (x : Departure). set (row_of old.departures to) n x)
      (sym (get_or_from_slice_get (row_of old.departures to) n d d there))
      ∙ set-get_or (row_of old.departures to) n d)
      ∙ set-get_or old.departures to []);
}

-- recalls that stay as they are
pub recalls-still : (me ranks : ℕ) (old new : SendingView) → TablesAgree me ranks old → (to n : ℕ)
    (d d' : Departure) → departure_of old to n ≡ Some d → recall_of d' ≡ recall_of d
    → ((t k : ℕ) → recall_in (destined new.offers t) k ≡ recall_in (destined old.offers t) k)
    → (t k : ℕ) → recall_in (destined new.offers t) k
    ≡ cond (is_at to n t k) (recall_of d') (recall_in (destined old.offers t) k)
recalls-still me ranks old new tables to n d d' there same each t k =
    each t k ∙ unchanged (λ t k. recall_in (destined old.offers t) k) to n t k
    ∙ ap (λ (r : Option (Option Bool)). cond (is_at to n t k) r (recall_in (destined old.offers t) k))
    (tables.recalls to n ∙ ap (λ (o : Option Departure). option_and_then recall_of o) there ∙ sym same)

-- what a message's answer was
pub unanswered-at : (me ranks : ℕ) (old : SendingView) → TablesAgree me ranks old → (to n : ℕ) (d : Departure)
    → departure_of old to n ≡ Some d → (not d.recalled && is_some d.undone) ≡ false
unanswered-at me ranks old tables to n d there =
    sym (ap (λ (o : Option Departure). passes (λ x. not x.recalled && is_some x.undone) o) there)
    ∙ tables.unanswered to n

-- where the state of a message that was sent by asking changes, or what became of it
pub asked-states : (me ranks : ℕ) (old new : SendingView) → TablesAgree me ranks old → (to n : ℕ)
    (d d' : Departure) → Steps (departure_of old) (departure_of new) to n (Some d) d' → (x : Bool)
    → (s : State) → is_ask d'.how ≡ true
    → ((t k : ℕ) → state_of new.offers t k ≡ cond (is_at to n t k) (Some s) (state_of old.offers t k))
    → ((t k : ℕ) → has (cleared_to new t) k ≡ (has (cleared_to old t) k || (is_at to n t k && x)))
    → IsStateOf d' (has (cleared_to old to) n || x) (Some s)
    → (t k : ℕ) → IsOffer (departure_of new t k) (has (cleared_to new t) k) (state_of new.offers t k)
asked-states me ranks old new tables to n d d' step x s asked states cleared here =
    states-step old new to n (Some d) d' step (Some s) x states cleared
    (by_how d'.how asked here) tables.states
  where
    by_how : (how : How) → is_ask how ≡ true → IsStateOf d' (has (cleared_to old to) n || x) (Some s)
        → IsOfferBy how d' (has (cleared_to old to) n || x) (Some s)
    by_how Ask is here = here
    by_how Eager is here = absurd (true≢false (sym is))
