-- How a history of a rank's messages goes on, one event after another.
use Rattle.std.proofs.Common.{◌≡◌, ℕ, ◌==◌, Bool, true, false, ◌&&◌, ◌||◌, Option, Some}
use Rattle.std.proofs.Common.{None, List, [], ◌∷◌, ◌++◌, length, map, is_some, refl, sym, ◌∙◌, ap}
use Rattle.std.proofs.Common.{subst, append-nil}
use Rattle.std.specs.Option.{option_map_or}
use Rattle.std.specs.List.{list_any, range_with_len, slice_get}
use Rattle.nm_history.specs.declared.events.Event.{Event}
use Rattle.nm_history.specs.declared.events.Happened.{Happened}
use Rattle.nm_history.specs.declared.events.Happened.TheVariants.{Out, Recall, Undone}
use Rattle.nm_history.specs.Delivery.{is_asked}
use Rattle.nm_history.specs.Happens.{happened, is_send, is_out, is_recall, is_undone, is_same, at}
use Rattle.nm_history.specs.Sends.{Sent, sent_of, is_ask}
use Rattle.nm_history.proofs.Basic.{or_false}
use Rattle.nm_history.specs.Rules.{IsRightAt}
use Rattle.nm_sending.specs.Outboxes.{OutboxView}
use Rattle.nm_sending.specs.declared.departures.Departure.{Departure}
use Rattle.nm_sending.specs.Departures.{SendingView, departures_to, departure_of, passes, was_undone}
use Rattle.nm_sending.specs.Departures.{row_of}
use Rattle.nm_sending.specs.Sent.{AreSent, Preserves}
use Rattle.nm_sending.proofs.EventLemmas.{sends-same}
use Rattle.nm_sending.proofs.PlaceLemmas.{Steps, passes-step, passes-more, passes-same}
use Rattle.nm_sending.proofs.TurnLemmas.{InTurn}
use Rattle.nm_history.proofs.AppendLemmas.{happened-push}

-- what one event goes with
pub keeps-one : (old new : SendingView) (w : Happened)
    → ((h : List Event) (stamp : ℕ) → AreSent old h
    → AreSent new (h ++ at stamp w ∷ []) × ((ranks : ℕ) → IsRightAt ranks h w))
    → Preserves old new (w ∷ [])
keeps-one old new w each h [] is was = absurd cc
keeps-one old new w each h (e ∷ f ∷ events) is was = absurd cc
keeps-one old new w each h (e ∷ []) is was =
    let same : e.what ≡ w = cc in
    let both = subst (λ (x : Happened). AreSent new (h ++ at e.stamp x ∷ [])
    × ((ranks : ℕ) → IsRightAt ranks h x))
    (sym same) (each h e.stamp was) in
    (both.0, λ ranks. (both.1 ranks, tt))

pub keeps-none : (old new : SendingView) → ((h : List Event) → AreSent old h → AreSent new h)
    → Preserves old new []
keeps-none old new each h [] is was =
    (subst (λ (k : List Event). AreSent new k) (sym (append-nil h)) (each h was), λ ranks. tt)
keeps-none old new each h (e ∷ events) is was = absurd cc

some_passes : (o : Option Departure) → is_some o ≡ passes (λ d. true) o
some_passes None = refl
some_passes (Some d) = refl

and_assoc : (a b c : Bool) → ((a && b) && c) ≡ (a && b && c)
and_assoc true b c = refl
and_assoc false b c = refl

module _ (old new : SendingView) (to n : ℕ) (d d' : Departure) (h : List Event) (stamp : ℕ)
    (step : Steps (departure_of old) (departure_of new) to n (Some d) d')
    (lens : (t : ℕ) → length (departures_to new t) ≡ length (departures_to old t))
    (how : d'.how ≡ d.how) (len : d'.len ≡ d.len) (was : AreSent old h) where
  -- a test of the new messages says of them what it said before
  same_as : (f : Departure → Bool) (test : Happened → Bool) (w : Happened) (t k : ℕ) → f d' ≡ f d
      → test w ≡ false → passes f (departure_of old t k) ≡ happened test h
      → passes f (departure_of new t k) ≡ happened test (h ++ at stamp w ∷ [])
  same_as f test w t k is off before =
      passes-same (departure_of old) (departure_of new) to n (Some d) d' step f t k is ∙ before
      ∙ sym (happened-push test h (at stamp w) ∙ ap (λ (b : Bool). happened test h || b) off
      ∙ or_false (happened test h))

  -- what an event that is no send leaves as it was
  record Rest (w : Happened) : Type 0 where
    quiet : sent_of stamp w ≡ None
    no_send : (t k : ℕ) → is_send t k w ≡ false

  sent-rest : (w : Happened) → Rest w
      → ((t k : ℕ) → passes (λ x. x.out) (departure_of new t k)
      ≡ happened (is_out t k) (h ++ at stamp w ∷ []))
      → ((t k : ℕ) → passes (λ x. x.recalled) (departure_of new t k)
      ≡ happened (is_recall t k) (h ++ at stamp w ∷ []))
      → ((t k : ℕ) (done : Bool) → passes (was_undone done) (departure_of new t k)
      ≡ happened (is_undone t k done) (h ++ at stamp w ∷ []))
      → InTurn new (h ++ at stamp w ∷ []) → AreSent new (h ++ at stamp w ∷ [])
  sent-rest w rest outs recalls undones turn = record {
    numbers = λ t. ap (λ (ss : List Sent). map (λ s. s.n) ss) (sends-same h (at stamp w) t rest.quiet)
        ∙ was.numbers t ∙ ap (λ (k : ℕ). range_with_len 0 k) (sym (lens t));
    sent = λ t k. some_passes (departure_of new t k)
        ∙ same_as (λ x. true) (is_send t k) w t k refl (rest.no_send t k)
        (sym (some_passes (departure_of old t k)) ∙ was.sent t k);
    asked = λ t k.
        passes-same (departure_of old) (departure_of new) to n (Some d) d' step (λ x. is_ask x.how) t k
        (ap is_ask how) ∙ was.asked t k
        ∙ ap (λ (ss : List Sent). is_asked ss k) (sym (sends-same h (at stamp w) t rest.quiet));
    empty = λ t k.
        passes-same (departure_of old) (departure_of new) to n (Some d) d' step (λ x. x.len == 0) t k
        (ap (λ (x : ℕ). x == 0) len) ∙ was.empty t k
        ∙ ap (λ (ss : List Sent). list_any (λ s. s.n == k && s.len == 0) ss)
        (sym (sends-same h (at stamp w) t rest.quiet));
    out = outs;
    recalled = recalls;
    undone = undones;
    in_turn = turn;
  }

  -- it has left
  pub sent-out : d'.out ≡ true → d'.recalled ≡ d.recalled → d'.undone ≡ d.undone
      → InTurn new (h ++ at stamp (Out to n) ∷ []) → AreSent new (h ++ at stamp (Out to n) ∷ [])
  sent-out out recalled undone turn =
      sent-rest (Out to n) (record { quiet = refl; no_send = λ t k. refl })
      (λ t k. passes-more (departure_of old) (departure_of new) to n (Some d) d' step (λ x. x.out) t k out
      ∙ ap (λ (b : Bool). b || (to == t && n == k)) (was.out t k)
      ∙ sym (happened-push (is_out t k) h (at stamp (Out to n))))
      (λ t k. same_as (λ x. x.recalled) (is_recall t k) (Out to n) t k recalled refl (was.recalled t k))
      (λ t k done. same_as (was_undone done) (is_undone t k done) (Out to n) t k
      (ap (λ (o : Option Bool). option_map_or (is_same done) o false) undone) refl (was.undone t k done))
      turn

  -- its receiver was asked to withdraw it
  pub sent-recall : d'.out ≡ d.out → d'.recalled ≡ true → d'.undone ≡ d.undone
      → InTurn new (h ++ at stamp (Recall to n) ∷ []) → AreSent new (h ++ at stamp (Recall to n) ∷ [])
  sent-recall out recalled undone turn =
      sent-rest (Recall to n) (record { quiet = refl; no_send = λ t k. refl })
      (λ t k. same_as (λ x. x.out) (is_out t k) (Recall to n) t k out refl (was.out t k))
      (λ t k.
      passes-more (departure_of old) (departure_of new) to n (Some d) d' step (λ x. x.recalled) t k recalled
      ∙ ap (λ (b : Bool). b || (to == t && n == k)) (was.recalled t k)
      ∙ sym (happened-push (is_recall t k) h (at stamp (Recall to n))))
      (λ t k done. same_as (was_undone done) (is_undone t k done) (Recall to n) t k
      (ap (λ (o : Option Bool). option_map_or (is_same done) o false) undone) refl (was.undone t k done))
      turn

  -- the answer to that came back
  pub sent-undone : (done : Bool) → d.undone ≡ None → d'.undone ≡ Some done → d'.out ≡ d.out
      → d'.recalled ≡ d.recalled → InTurn new (h ++ at stamp (Undone to n done) ∷ [])
      → AreSent new (h ++ at stamp (Undone to n done) ∷ [])
  sent-undone done none is out recalled turn =
      sent-rest (Undone to n done) (record { quiet = refl; no_send = λ t k. refl })
      (λ t k. same_as (λ x. x.out) (is_out t k) (Undone to n done) t k out refl (was.out t k))
      (λ t k. same_as (λ x. x.recalled) (is_recall t k) (Undone to n done) t k recalled refl
      (was.recalled t k))
      (λ t k other.
      passes-step (departure_of old) (departure_of new) to n (Some d) d' step (was_undone other) t k
      (is_same other done)
      (ap (λ (o : Option Bool). option_map_or (is_same other) o false) is
      ∙ ap (λ (o : Option Bool). option_map_or (is_same other) o false || is_same other done) (sym none))
      ∙ ap (λ (b : Bool). b || ((to == t && n == k) && is_same other done)) (was.undone t k other)
      ∙ ap (λ (b : Bool). happened (is_undone t k other) h || b)
      (and_assoc (to == t) (n == k) (is_same other done))
      ∙ sym (happened-push (is_undone t k other) h (at stamp (Undone to n done))))
      turn

-- a message that was sent may leave once
pub right-out : (v : SendingView) (h : List Event) (to n ranks : ℕ) (d : Departure) → departure_of v to n
    ≡ Some d
    → d.out ≡ false → AreSent v h → IsRightAt ranks h (Out to n)
right-out v h to n ranks d there stays was = record {
  numbers = tt;
  matches = tt;
  claims = tt;
  cancels = tt;
  wholes = tt;
  ends = (
    sym (was.out to n) ∙ ap (λ (o : Option Departure). passes (λ x. x.out) o) there ∙ stays,
    sym (was.sent to n) ∙ ap (λ (o : Option Departure). is_some o) there,
  );
}

-- and be recalled once
pub right-recall : (v : SendingView) (h : List Event) (to n ranks : ℕ) (d : Departure)
    → departure_of v to n ≡ Some d → d.recalled ≡ false → AreSent v h → IsRightAt ranks h (Recall to n)
right-recall v h to n ranks d there stays was = record {
  numbers = tt;
  matches = tt;
  claims = tt;
  cancels = (
    sym (was.recalled to n) ∙ ap (λ (o : Option Departure). passes (λ x. x.recalled) o) there ∙ stays,
    sym (was.sent to n) ∙ ap (λ (o : Option Departure). is_some o) there,
  );
  wholes = tt;
  ends = tt;
}

-- and that has one answer
pub right-undone : (v : SendingView) (h : List Event) (to n ranks : ℕ) (done : Bool) (d : Departure)
    → departure_of v to n ≡ Some d → d.recalled ≡ true → d.undone ≡ None → AreSent v h
    → IsRightAt ranks h (Undone to n done)
right-undone v h to n ranks done d there recalled none was = record {
  numbers = tt;
  matches = tt;
  claims = tt;
  cancels = tt;
  wholes = tt;
  ends = (
    sym (was.undone to n true) ∙ ap (λ (o : Option Departure). passes (was_undone true) o) there
        ∙ ap (λ (o : Option Bool). option_map_or (is_same true) o false) none,
    sym (was.undone to n false) ∙ ap (λ (o : Option Departure). passes (was_undone false) o) there
        ∙ ap (λ (o : Option Bool). option_map_or (is_same false) o false) none,
    sym (was.recalled to n) ∙ ap (λ (o : Option Departure). passes (λ x. x.recalled) o) there ∙ recalled,
  );
}

-- packets play no part in it
pub sent-outbox : (v : SendingView) (outbox : OutboxView) (h : List Event) → AreSent v h
    → AreSent (record v { outbox = outbox }) h
sent-outbox v outbox h was = record {
  numbers = was.numbers;
  sent = was.sent;
  asked = was.asked;
  empty = was.empty;
  out = was.out;
  recalled = was.recalled;
  undone = was.undone;
  in_turn = was.in_turn;
}

-- what became of the messages is what they say, whatever is offered
pub sent-offers : (old new : SendingView) (h : List Event) → new.departures ≡ old.departures → InTurn new h
    → AreSent old h → AreSent new h
sent-offers old new h same turn was = record {
  numbers = λ t. was.numbers t
      ∙ ap (λ (rows : List (List Departure)). range_with_len 0 (length (row_of rows t))) (sym same);
  sent = λ t k.
      ap (λ (rows : List (List Departure)). is_some (slice_get (row_of rows t) k)) same ∙ was.sent t k;
  asked = λ t k. passing (λ d. is_ask d.how) t k ∙ was.asked t k;
  empty = λ t k. passing (λ d. d.len == 0) t k ∙ was.empty t k;
  out = λ t k. passing (λ d. d.out) t k ∙ was.out t k;
  recalled = λ t k. passing (λ d. d.recalled) t k ∙ was.recalled t k;
  undone = λ t k done. passing (was_undone done) t k ∙ was.undone t k done;
  in_turn = turn;
}
  where
    passing : (f : Departure → Bool) (t k : ℕ)
        → passes f (departure_of new t k) ≡ passes f (departure_of old t k)
    passing f t k = ap (λ (rows : List (List Departure)). passes f (slice_get (row_of rows t) k)) same
