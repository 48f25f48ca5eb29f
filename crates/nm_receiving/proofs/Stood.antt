-- How the tables stand to a history, but for the empty messages, one event after another.
use Rattle.std.proofs.Common.{◌≡◌, ℕ, ◌<◌, Bool, false}
use Rattle.std.proofs.Common.{Option, Some, None, List, [], ◌∷◌, ◌++◌, length, sym, ◌∙◌, ap, subst, ◌⊎◌, inl, inr}
use Rattle.std.proofs.Common.{arith, length-append}
use Rattle.std.specs.List.{slice_get}
use Rattle.std.specs.Option.{option_and_then, option_map, option_map_or, option_to_list}
use Rattle.std.proofs.lemmas.Bool.{cases_eq}
use Rattle.std.proofs.lemmas.Option.{slice_get_past}
use Rattle.nm_types.specs.declared.messages.Arrival.{Arrival}
use Rattle.nm_history.specs.declared.events.Event.{Event}
use Rattle.nm_history.specs.declared.plain.Pair.{Pair}
use Rattle.nm_history.specs.Completion.{pair_of_receive}
use Rattle.nm_history.specs.Happens.{happened, is_cancel, is_whole}
use Rattle.nm_history.specs.Matching.{is_matching, matched_pairs, pair_of_claimed as pair}
use Rattle.nm_history.specs.Sends.{arrivals, arrival_of, message_of, receives, receive_of}
use Rattle.nm_history.specs.Rest.{EmptyAreHere}
use Rattle.nm_match.specs.declared.deeds.Deed.{Deed}
use Rattle.nm_match.specs.Deeds.{Represents, deeds_after}
use Rattle.nm_match.proofs.StandsLemmas.{stands_push}
use Rattle.nm_receiving.specs.Pieces.{AreDue}
use Rattle.nm_receiving.specs.declared.receipts.Receipt.{Receipt}
use Rattle.nm_receiving.specs.declared.receipts.Receive.{Receive}
use Rattle.nm_receiving.specs.Receipts.{ReceivingView, receipts_from, receipt_of, granted_to, drawn_from, pair_at}
use Rattle.nm_receiving.specs.Receipts.{pair_with}
use Rattle.nm_receiving.specs.Received.{AreReceived}
use Rattle.nm_receiving.specs.Steps.{grants_with}
use Rattle.nm_receiving.proofs.Dues.{due-with}
use Rattle.nm_receiving.proofs.Grow.{arrivals_still, happened_still}
use Rattle.nm_receiving.proofs.Grow.{message_still, pair_new, pair_still, pairs_still}
use Rattle.nm_receiving.proofs.Lists.{slice_get-last, slice_get-push_other}
use Rattle.nm_history.proofs.AppendLemmas.{receives_more, receives_still}

-- whether the message of a receipt is whole, and whether a receive was cancelled
abbrev pub is_whole_at : Option Receipt → Bool
is_whole_at o = option_map_or (λ m. m.whole) o false

abbrev pub is_cancelled_at : Option Receive → Bool
is_cancelled_at o = option_map_or (λ r. r.cancelled) o false

pub record Stood (v : ReceivingView) (h : List Event) : Type 0 where
  pub stands : Represents v.deeds h
  pub arrived : (from : ℕ) → length (receipts_from v from) ≡ length (arrivals h from)
  pub messages : (from n : ℕ) → option_map (λ m. m.arrival) (receipt_of v from n) ≡ message_of h from n
  pub whole : (from n : ℕ) → is_whole_at (receipt_of v from n) ≡ happened (is_whole from n) h
  pub count : length v.receives ≡ length (receives h)
  pub pairs : (number : ℕ) → pair_at v number ≡ pair_of_receive h number
  pub cancelled : (number : ℕ) → is_cancelled_at (slice_get v.receives number) ≡ happened (is_cancel number) h
  pub due : (from : ℕ) → AreDue (granted_to v from) h from (drawn_from v from)

pub stood_of : (v : ReceivingView) (h : List Event) → AreReceived v h → Stood v h
stood_of v h all = record {
  stands = all.stands;
  arrived = all.arrived;
  messages = all.messages;
  whole = all.whole;
  count = all.count;
  pairs = all.pairs;
  cancelled = all.cancelled;
  due = all.due;
}

pub received_of : (v : ReceivingView) (h : List Event) → Stood v h → EmptyAreHere h → AreReceived v h
received_of v h all empty = record {
  stands = all.stands;
  arrived = all.arrived;
  messages = all.messages;
  whole = all.whole;
  count = all.count;
  pairs = all.pairs;
  cancelled = all.cancelled;
  due = all.due;
  empty = empty;
}

-- the deeds are others
abbrev pub with_deeds : ReceivingView → List Deed → ReceivingView
with_deeds v deeds = record v { deeds = deeds }

-- an event of no receive, no message, no cancel and no pair
module _ (v : ReceivingView) (h : List Event) (e : Event) (stood : Stood v h) where
  pub stood-quiet : (deeds : List Deed) → deeds ≡ deeds_after v.deeds e.what → is_matching e.what ≡ false
      → arrival_of e.what ≡ None → receive_of e.what ≡ None → ((from n : ℕ) → is_whole from n e.what ≡ false)
      → ((number : ℕ) → is_cancel number e.what ≡ false) → Stood (with_deeds v deeds) (h ++ e ∷ [])
  stood-quiet deeds done silent no_arrival no_receive not_whole not_cancel = record {
    stands = subst (λ (ds : List Deed). Represents ds (h ++ e ∷ [])) (sym done) (stands_push v.deeds h e stood.stands);
    arrived = λ from. stood.arrived from ∙ sym (ap length (arrivals_still h e no_arrival from));
    messages = λ from n. stood.messages from n ∙ sym (message_still h e no_arrival from n);
    whole = λ from n. stood.whole from n ∙ sym (happened_still (is_whole from n) h e (not_whole from n));
    count = stood.count ∙ sym (receives_still h e no_receive);
    pairs = λ k. stood.pairs k
        ∙ sym (pair_still h (h ++ e ∷ []) None (pairs_still h e silent) k (λ q is. absurd (let h' : ⊥ = cc in h')));
    cancelled = λ k. stood.cancelled k ∙ sym (happened_still (is_cancel k) h e (not_cancel k));
    due = due-with h (e ∷ []) 0 0 None (pairs_still h e silent) v.grants (drawn_from v)
        (λ a is. absurd (let h' : ⊥ = cc in h')) stood.due;
  }

-- a receive begins, and takes this message, if there is one
abbrev pub begun : ReceivingView → Deed → ℕ → Option Arrival → ReceivingView
begun v d cap taken =
    record v {
      deeds = v.deeds ++ d ∷ [];
      grants = grants_with v.grants taken;
      receives = v.receives ++ record { cap = cap; taken = taken; cancelled = false; ended = false } ∷ [];
    }

made_number : (number cap : ℕ) (taken : Option Arrival) (q : Pair) → option_map (pair number cap) taken ≡ Some q →
    q.number ≡ number
made_number number cap None q is = absurd (let h : ⊥ = cc in h)
made_number number cap (Some a) q is = let same : pair number cap a ≡ q = cc in ap (λ (p : Pair). p.number) (sym same)

module _ (v : ReceivingView) (h : List Event) (e : Event) (stood : Stood v h) (d : Deed) (number cap : ℕ)
    (taken : Option Arrival)
    (next : number ≡ length v.receives)
    (grown : matched_pairs (h ++ e ∷ []) ≡ matched_pairs h ++ option_to_list (option_map (pair number cap) taken)) where
  abbrev new : Receive
  new = record { cap = cap; taken = taken; cancelled = false; ended = false }

  no_pair : pair_of_receive h number ≡ None
  no_pair = sym (stood.pairs number)
      ∙ ap (λ (o : Option Receive). option_and_then (pair_with number) o)
      (slice_get_past v.receives number (omega (arith, next)))

  pairs_begun : (k : ℕ) → (k ≡ number) ⊎ (k ≡ number → ⊥)
      → option_and_then (pair_with k) (slice_get (v.receives ++ new ∷ []) k) ≡ pair_of_receive (h ++ e ∷ []) k
  pairs_begun k (inl same) =
      ap (λ (o : Option Receive). option_and_then (pair_with k) o) (slice_get-last v.receives new k (same ∙ next))
      ∙ ap (λ (j : ℕ). option_map (pair j cap) taken) same
      ∙ sym (pair_new h (h ++ e ∷ []) (option_map (pair number cap) taken) grown k
      (ap (λ (j : ℕ). pair_of_receive h j) same ∙ no_pair)
      (λ q is. made_number number cap taken q is ∙ sym same))
  pairs_begun k (inr differ) =
      ap (λ (o : Option Receive). option_and_then (pair_with k) o)
      (slice_get-push_other v.receives new k (λ same. differ (same ∙ sym next)))
      ∙ stood.pairs k
      ∙ sym (pair_still h (h ++ e ∷ []) (option_map (pair number cap) taken) grown k
      (λ q is same. differ (sym same ∙ made_number number cap taken q is)))

  cancelled_begun : ((k : ℕ) → is_cancel k e.what ≡ false) → (k : ℕ) → (k ≡ number) ⊎ (k ≡ number → ⊥)
      → is_cancelled_at (slice_get (v.receives ++ new ∷ []) k) ≡ happened (is_cancel k) (h ++ e ∷ [])
  cancelled_begun not_cancel k (inl same) =
      ap is_cancelled_at (slice_get-last v.receives new k (same ∙ next))
      ∙ sym (happened_still (is_cancel k) h e (not_cancel k) ∙ sym (stood.cancelled k)
      ∙ ap is_cancelled_at (slice_get_past v.receives k (omega (arith, next, same))))
  cancelled_begun not_cancel k (inr differ) =
      ap is_cancelled_at (slice_get-push_other v.receives new k (λ same. differ (same ∙ sym next)))
      ∙ stood.cancelled k ∙ sym (happened_still (is_cancel k) h e (not_cancel k))

  pub stood-begun : v.deeds ++ d ∷ [] ≡ deeds_after v.deeds e.what
      → arrival_of e.what ≡ None → receive_of e.what ≡ Some number → ((from n : ℕ) → is_whole from n e.what ≡ false)
      → ((k : ℕ) → is_cancel k e.what ≡ false) → ((a : Arrival) → taken ≡ Some a → a.env.from < length v.grants)
      → Stood (begun v d cap taken) (h ++ e ∷ [])
  stood-begun done no_arrival some_receive not_whole not_cancel inside = record {
    stands = subst (λ (ds : List Deed). Represents ds (h ++ e ∷ [])) (sym done) (stands_push v.deeds h e stood.stands);
    arrived = λ from. stood.arrived from ∙ sym (ap length (arrivals_still h e no_arrival from));
    messages = λ from n. stood.messages from n ∙ sym (message_still h e no_arrival from n);
    whole = λ from n. stood.whole from n ∙ sym (happened_still (is_whole from n) h e (not_whole from n));
    count = let more = receives_more h e number some_receive in let was = stood.count in
        omega (arith, length-append v.receives (new ∷ []), more, was);
    pairs = λ k. pairs_begun k (cases_eq k number);
    cancelled = λ k. cancelled_begun not_cancel k (cases_eq k number);
    due = due-with h (e ∷ []) number cap taken grown v.grants (drawn_from v) inside stood.due;
  }
