-- The first packet goes, and an eager message leaves with its last one.
use Rattle.std.proofs.Common.{◌≡◌, ℕ, ◌+◌, ◌<◌, ◌==◌, Bool, true, false, not, ◌&&◌, ◌||◌, cond}
use Rattle.std.proofs.Common.{Option, Some, None}
use Rattle.std.proofs.Common.{List, [], ◌∷◌, ◌++◌, length, is_some, refl, sym, ◌∙◌, ap, subst}
use Rattle.std.proofs.Common.{arith, true≢false}
use Rattle.std.specs.Prelude.{IfSome, option_and_then, option_map, slice_set}
use Rattle.std.proofs.Math.ListN.{set}
use Rattle.nm_history.specs.declared.events.Event.{Event}
use Rattle.nm_history.specs.Delivery.{is_asked}
use Rattle.nm_history.specs.Effects.{is_empty_send}
use Rattle.std.specs.List.{slice_get, cons_option}
use Rattle.nm_types.specs.declared.messages.How.{How}
use Rattle.nm_types.specs.declared.messages.How.TheVariants.{Eager, Ask}
use Rattle.nm_history.specs.declared.events.Happened.TheVariants.{Out}
use Rattle.nm_history.specs.Sends.{sends, is_ask}
use Rattle.nm_history.proofs.Basic.{self_true, or_false}
use Rattle.nm_history.specs.Continues.{has}
use Rattle.nm_history.specs.Happens.{at}
use Rattle.nm_rndv.specs.declared.asked.State.{State}
use Rattle.nm_rndv.specs.Offers.{state_of, recall_in, destined}
use Rattle.nm_sending.specs.Letters.{Letter}
use Rattle.nm_sending.specs.Outboxes.{OutboxView, Pops, popped_to}
use Rattle.nm_sending.specs.declared.departures.Departure.{Departure}
use Rattle.nm_sending.specs.Departures.{SendingView, row_of, with_departure, departures_to}
use Rattle.nm_sending.specs.Departures.{departure_of, passes}
use Rattle.nm_sending.specs.Departures.{cleared_to, ended_by, ends_to}
use Rattle.nm_sending.specs.Rows.{is_settled, is_withdrawn}
use Rattle.nm_sending.specs.Sent.{AreSent, Preserves}
use Rattle.nm_sending.specs.Tables.{TablesAgree, IsOffer, IsOfferBy, waits, waiting_from, recall_of}
use Rattle.std.proofs.lemmas.List.{length-set}
use Rattle.nm_sending.proofs.EndLemmas.{ends-none}
use Rattle.nm_sending.proofs.EventLemmas.{left_none, sends-same, pushed_out-same}
use Rattle.nm_sending.proofs.LeavingLemmas.{turn-still}
use Rattle.nm_sending.proofs.SentLemmas.{keeps-one, right-out, sent-out}
use Rattle.nm_sending.proofs.TableLemmas.{Change, change-row, change-steps, change-lens, row_there}
use Rattle.nm_sending.proofs.TableLemmas.{states-step}
use Rattle.nm_sending.proofs.TableLemmas.{tables-change, unchanged, or_nothing, is_at, out-counted}
use Rattle.nm_sending.proofs.WaitingLemmas.{First, waiting_first, weight}
use Rattle.nm_types.proofs.NumberLemmas.{same_number}

-- an eager message that waits
pub waits_eager : (d : Departure) → waits d ≡ true → is_ask d.how ≡ false
waits_eager d w = by_test (is_ask d.how) refl w where
  by_test : (b : Bool) → is_ask d.how ≡ b → (not b && not d.out) ≡ true → is_ask d.how ≡ false
  by_test true is w = absurd (true≢false (sym w))
  by_test false is w = is

pub waits_in : (d : Departure) → waits d ≡ true → d.out ≡ false
waits_in d w = by_test (is_ask d.how) d.out refl w where
  by_test : (b c : Bool) → d.out ≡ c → (not b && not c) ≡ true → d.out ≡ false
  by_test true c is w = absurd (true≢false (sym w))
  by_test false true is w = absurd (true≢false (sym w))
  by_test false false is w = is

-- it may still leave
waits_settled : (d : Departure) → waits d ≡ true → is_settled d ≡ false
waits_settled d w = by_test (is_ask d.how) d.out w where
  by_test : (a o : Bool) → (not a && not o) ≡ true → (o || (a && is_withdrawn d)) ≡ false
  by_test true o w = absurd (true≢false (sym w))
  by_test false true w = absurd (true≢false (sym w))
  by_test false false w = refl

pub out_waits : (d : Departure) → d.out ≡ true → waits d ≡ false
out_waits d out = rw out (by_test (is_ask d.how)) where
  by_test : (b : Bool) → (not b && false) ≡ false
  by_test true = refl
  by_test false = refl

-- an eager message has no state, whatever became of it
pub offer-eager : (how : How) (d d' : Departure) (c : Bool) (s : Option State) → is_ask how ≡ false
    → IsOfferBy how d c s → IsOfferBy how d' c s
offer-eager Eager d d' c s eager offer = offer
offer-eager Ask d d' c s eager offer = absurd (true≢false eager)

module _ (me ranks : ℕ) (old : SendingView) (tables : TablesAgree me ranks old) (letter : Letter)
    (rest : List Letter)
    (list : old.outbox.letters ≡ letter ∷ rest) where
  -- what the letters end, the first one and the rest
  ends-first : (t : ℕ) → ends_to t old.outbox.letters
      ≡ cons_option (cond (letter.to == t) letter.ends None) (ends_to t rest)
  ends-first t = ap (λ (ls : List Letter). ends_to t ls) list

  module _ (n : ℕ) (is : letter.ends ≡ Some n) where
    pub first : First 0 n (departures_to old letter.to) (ends_to letter.to rest)
    first = waiting_first 0 n (departures_to old letter.to) (ends_to letter.to rest)
        (sym (tables.eager letter.to) ∙ ends-first letter.to
        ∙ ap (λ (b : Bool). cons_option (cond b letter.ends None) (ends_to letter.to rest))
        (self_true letter.to)
        ∙ ap (λ (o : Option ℕ). cons_option o (ends_to letter.to rest)) is)

    place_is : first.place ≡ n
    place_is = omega (arith, first.is)

    -- the message that the first letter ends
    pub ended_there : departure_of old letter.to n ≡ Some first.message
    ended_there = ap (λ (k : ℕ). slice_get (departures_to old letter.to) k) (sym place_is) ∙ first.there

    pub ended_waits : (d : Departure) → departure_of old letter.to n ≡ Some d → waits d ≡ true
    ended_waits d there =
        let same : first.message ≡ d = some_same (sym ended_there ∙ there) in
        ap waits (sym same) ∙ first.waiting
      where
        some_same : {x y : Departure} → Some x ≡ Some y → x ≡ y
        some_same e = cc

    -- it is no message that was sent by asking
    pub front-eager : (h : List Event) → AreSent old h → is_asked (sends h letter.to) n ≡ false
    front-eager h was =
        sym (was.asked letter.to n)
        ∙ ap (λ (o : Option Departure). passes (λ x. is_ask x.how) o) ended_there
        ∙ waits_eager first.message first.waiting

    module _ (outbox : OutboxView) (rows : List (List Departure)) (staying : ℕ) (d : Departure)
        (there : departure_of old letter.to n ≡ Some d)
        (now : rows ≡ with_departure old.departures letter.to n (record d { out = true })) where
      abbrev pub after : SendingView
      after = record {
        outbox = outbox;
        offers = old.offers;
        departures = rows;
        pushed = old.pushed;
        staying = staying;
      }

      pub front-change : Change old after letter.to n d (record d { out = true })
      front-change = record {
        inside = row_there old.departures letter.to n d there;
        there = there;
        rows = now;
      }

      -- the message is gone from those that wait
      gone : (t : ℕ) → ends_to t rest ≡ waiting_from 0 (departures_to after t)
      gone t =
          sym (ap (λ (ds : List Departure). waiting_from 0 ds)
          (change-row old after letter.to n d (record d { out = true }) front-change t)
          ∙ by_test (letter.to == t) refl)
        where
          d' : Departure
          d' = record d { out = true }

          by_test : (b : Bool) → (letter.to == t) ≡ b
              → waiting_from 0 (cond b (set (row_of old.departures letter.to) n d') (departures_to old t))
              ≡ ends_to t rest
          by_test true is' =
              ap (λ (k : ℕ). waiting_from 0 (set (departures_to old letter.to) k d')) (sym place_is)
              ∙ first.without d' (out_waits d' refl)
              ∙ ap (λ (x : ℕ). ends_to x rest) (same_number letter.to t is')
          by_test false is' =
              sym (tables.eager t) ∙ ends-first t
              ∙ ap (λ (b : Bool). cons_option (cond b letter.ends None) (ends_to t rest)) is'

      pub front-tables : outbox.me ≡ old.outbox.me → length outbox.popped ≡ length old.outbox.popped
          → outbox.letters ≡ rest → staying + 1 ≡ old.staying → TablesAgree me ranks after
      front-tables own letters are counted =
          tables-change old after letter.to n d d' front-change me ranks tables own letters refl refl
          (λ t. ap (λ (ls : List Letter). ends_to t ls) are ∙ gone t)
          (states-step old after letter.to n (Some d) d'
          (change-steps old after letter.to n d d' front-change) (state_of old.offers letter.to n) false
          (unchanged (λ t k. state_of old.offers t k) letter.to n)
          (λ t k. or_nothing (has (cleared_to old t) k) (is_at letter.to n t k))
          (subst (λ (c : Bool). IsOffer (Some d') c (state_of old.offers letter.to n))
          (sym (or_false (has (cleared_to old letter.to) n)))
          (offer-eager d.how d d' (has (cleared_to old letter.to) n) (state_of old.offers letter.to n)
          (waits_eager d waiting)
          (subst (λ (o : Option Departure). IsOffer o (has (cleared_to old letter.to) n)
          (state_of old.offers letter.to n))
          there (tables.states letter.to n))))
          tables.states)
          tables.once
          (λ t k. unchanged (λ t k. recall_in (destined old.offers t) k) letter.to n t k
          ∙ ap (λ (r : Option (Option Bool)). cond (is_at letter.to n t k) r
          (recall_in (destined old.offers t) k))
          (tables.recalls letter.to n ∙ ap (λ (o : Option Departure). option_and_then recall_of o) there))
          (sym (ap (λ (o : Option Departure). passes (λ x. not x.recalled && is_some x.undone) o) there)
          ∙ tables.unanswered letter.to n)
          (let in' : weight d ≡ 1 = ap (λ (b : Bool). cond (not b) 1 0) (waits_in d waiting) in
          omega (arith, in', counted))
          tables.pieces
        where
          d' : Departure
          d' = record d { out = true }

          waiting : waits d ≡ true
          waiting = ended_waits d there

      pub front-counted : 0 < old.staying
      front-counted =
          out-counted old after letter.to n d (record d { out = true }) front-change me ranks tables
          (waits_in d (ended_waits d there)) refl

      pub front-kept : Preserves old after (Out letter.to n ∷ [])
      front-kept = keeps-one old after (Out letter.to n) (λ h stamp was.
          let asked : is_asked (sends h letter.to) n ≡ false = front-eager h was in
          let e : Event = at stamp (Out letter.to n) in (
            sent-out old after letter.to n d (record d { out = true }) h stamp
                (change-steps old after letter.to n d (record d { out = true }) front-change)
                (change-lens old after letter.to n d (record d { out = true }) front-change) refl refl was
                refl refl refl
                (turn-still old after h (h ++ e ∷ []) (λ t. sends-same h e t refl) was.in_turn refl
                (λ t. pushed_out-same h e t (sends-same h e t refl)
                (left_none h letter.to n t (ap (λ (b : Bool). b && not (is_empty_send h letter.to n)) asked)))
                (λ t q. refl)),
            λ ranks. right-out old h letter.to n ranks d there (waits_in d (ended_waits d there)) was,
          ))

-- the message that leaves with the letter that was popped
ended_by_it : (o : Option ℕ) (goes to n : ℕ) → option_map {U = ℕ × ℕ} (λ k. (goes, k)) o ≡ Some (to, n)
    → (goes ≡ to) × (o ≡ Some n)
ended_by_it None goes to n is = absurd cc
ended_by_it (Some k) goes to n is =
    let pair : ◌≡◌ {A = ℕ × ℕ} (goes, k) (to, n) = cc in
    (ap (λ (p : ℕ × ℕ). p.0) pair, ap (λ (p : ℕ × ℕ). Some p.1) pair)

pub ended_is : (l : Letter) (r : Option (ℕ × ℕ)) (to n : ℕ) → r ≡ option_map (λ k. (l.to, k)) l.ends
    → r ≡ Some (to, n) → (l.to ≡ to) × (l.ends ≡ Some n)
ended_is l r to n left is = ended_by_it l.ends l.to to n (sym left ∙ is)

-- what a pop answers, and what it changes
pub last_is : (r : Option (ℕ × ℕ)) (old new : OutboxView) → Pops r old new
    → r ≡ ended_by (slice_get old.letters 0)
last_is r old new p = p.left ∙ sym (ap (λ (ls : List Letter). ended_by (slice_get ls 0)) p.letters)

pub popped_is : (r : Option (ℕ × ℕ)) (old new : OutboxView) → Pops r old new
    → IfSome (slice_get old.letters 0) (λ letter. (old.letters ≡ letter ∷ new.letters)
    × (new
    ≡ record old {
      letters = new.letters;
      popped = slice_set old.popped letter.to (popped_to old letter.to + 1);
      spare = new.spare;
    }))
popped_is r old new p =
    subst (λ (ls : List Letter). IfSome (slice_get ls 0) (λ letter. (old.letters ≡ letter ∷ new.letters)
    × (new
    ≡ record old {
      letters = new.letters;
      popped = slice_set old.popped letter.to (popped_to old letter.to + 1);
      spare = new.spare;
    }))) (sym p.letters) (p.letters, p.outbox)

-- where no message leaves with the letter, the tables stand as they are
none_ended : (o : Option ℕ) (to : ℕ) → ◌≡◌ {A = Option (ℕ × ℕ)} None (option_map (λ k. (to, k)) o) → o ≡ None
none_ended None to is = refl
none_ended (Some k) to is = absurd cc

pub tables-stay : (me ranks : ℕ) (old : SendingView) (outbox : OutboxView) → TablesAgree me ranks old
    → Pops None old.outbox outbox → TablesAgree me ranks (record old { outbox = outbox })
tables-stay me ranks old outbox t p = record {
  own = t.own ∙ sym (ap (λ (o : OutboxView). o.me) p.outbox);
  letters = ap (λ (o : OutboxView). length o.popped) p.outbox
      ∙ length-set old.outbox.popped p.letter.to (popped_to old.outbox p.letter.to + 1) ∙ t.letters;
  rows = t.rows;
  offers = t.offers;
  counts = t.counts;
  eager = λ to. sym (ap (λ (ls : List Letter). ends_to to ls) p.letters
      ∙ ends-none to p.letter outbox.letters (none_ended p.letter.ends p.letter.to p.left))
      ∙ t.eager to;
  states = t.states;
  once = t.once;
  recalls = t.recalls;
  unanswered = t.unanswered;
  staying = t.staying;
  few = t.few;
  pieces = t.pieces;
}

-- the same of the message, by its receiver
module _ (me ranks : ℕ) (old : SendingView) (tables : TablesAgree me ranks old) (letter : Letter)
    (rest : List Letter) (list : old.outbox.letters ≡ letter ∷ rest) (to n : ℕ) (goes : letter.to ≡ to)
    (is : letter.ends ≡ Some n) where
  abbrev pub gone-message : Departure
  gone-message = (first me ranks old tables letter rest list n is).message

  pub gone-there : departure_of old to n ≡ Some gone-message
  gone-there =
      subst (λ (t : ℕ). departure_of old t n ≡ Some (first me ranks old tables letter rest list n is).message) goes
      (ended_there me ranks old tables letter rest list n is)

  pub gone-stays : is_settled gone-message ≡ false
  gone-stays = waits_settled gone-message (first me ranks old tables letter rest list n is).waiting

  pub gone-eager : (h : List Event) → AreSent old h → is_asked (sends h to) n ≡ false
  gone-eager =
      subst (λ (t : ℕ). (h : List Event) → AreSent old h → is_asked (sends h t) n ≡ false) goes
      (front-eager me ranks old tables letter rest list n is)

  module _ (outbox : OutboxView) (rows : List (List Departure)) (staying : ℕ)
      (now : (d : Departure) → departure_of old to n ≡ Some d
      → rows ≡ with_departure old.departures to n (record d { out = true })) where
    abbrev there' : departure_of old letter.to n ≡ Some gone-message
    there' = ended_there me ranks old tables letter rest list n is

    now' : rows ≡ with_departure old.departures letter.to n (record gone-message { out = true })
    now' = subst (λ (t : ℕ). rows ≡ with_departure old.departures t n (record gone-message { out = true }))
        (sym goes) (now gone-message gone-there)

    pub gone-counted : 0 < old.staying
    gone-counted = front-counted me ranks old tables letter rest list n is outbox rows staying gone-message there' now'

    pub gone-tables : outbox.me ≡ old.outbox.me → length outbox.popped ≡ length old.outbox.popped
        → outbox.letters ≡ rest → staying + 1 ≡ old.staying → TablesAgree me ranks (record {
          outbox = outbox;
          offers = old.offers;
          departures = rows;
          pushed = old.pushed;
          staying = staying;
        })
    gone-tables = front-tables me ranks old tables letter rest list n is outbox rows staying gone-message there' now'

    pub gone-kept : Preserves old (record {
      outbox = outbox;
      offers = old.offers;
      departures = rows;
      pushed = old.pushed;
      staying = staying;
    }) (Out to n ∷ [])
    gone-kept =
        subst (λ (t : ℕ). Preserves old (record {
          outbox = outbox;
          offers = old.offers;
          departures = rows;
          pushed = old.pushed;
          staying = staying;
        }) (Out t n ∷ [])) goes
        (front-kept me ranks old tables letter rest list n is outbox rows staying gone-message there' now')
