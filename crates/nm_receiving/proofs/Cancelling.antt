-- How the tables stand to a history after a receive is cancelled.
use Rattle.std.proofs.Common.{◌≡◌, ℕ, ◌==◌, Bool, true, false, ◌&&◌}
use Rattle.std.proofs.Common.{Option, Some, None, List, [], ◌∷◌, ◌++◌, length, refl, sym, ◌∙◌, ap, subst, ◌⊎◌, inl, inr}
use Rattle.std.specs.List.{slice_get}
use Rattle.std.specs.Option.{option_and_then}
use Rattle.std.proofs.Math.ListN.{set}
use Rattle.std.proofs.lemmas.Bool.{cases_eq}
use Rattle.std.proofs.lemmas.List.{length-set}
use Rattle.std.proofs.lemmas.Option.{slice_get_within}
use Rattle.nm_history.specs.declared.events.Event.{Event}
use Rattle.nm_history.specs.declared.events.Happened.TheVariants.{Cancel}
use Rattle.nm_history.specs.Happens.{at, happened, is_cancel, is_whole}
use Rattle.nm_match.specs.declared.deeds.Deed.{Deed}
use Rattle.nm_match.specs.Deeds.{Represents, deeds_after}
use Rattle.nm_match.proofs.StandsLemmas.{stands_push}
use Rattle.nm_receiving.specs.declared.receipts.Receive.{Receive}
use Rattle.nm_receiving.specs.Receipts.{ReceivingView, drawn_from, pair_with}
use Rattle.nm_receiving.proofs.Grow.{arrivals_still, happened_now, happened_still}
use Rattle.nm_receiving.proofs.Grow.{message_still, pair_still, pairs_still}
use Rattle.nm_receiving.specs.Steps.{has_cancelled}
use Rattle.nm_receiving.proofs.Dues.{due-with}
use Rattle.nm_receiving.proofs.Stood.{Stood, is_cancelled_at, stood-quiet}
use Rattle.nm_types.proofs.NumberLemmas.{unequal, eq_true}
use Rattle.nm_types.proofs.ListLemmas.{get_set_other, get_set_same}
use Rattle.nm_history.proofs.AppendLemmas.{receives_still}

module _ (v : ReceivingView) (h : List Event) (stood : Stood v h) (stamp number : ℕ) where
  abbrev e : Bool → Event
  e done = at stamp (Cancel number done)

  -- it came too late
  late_is : (k : ℕ) → is_cancel k (Cancel number false) ≡ false
  late_is k = by (number == k)
    where
      by : (b : Bool) → (b && false) ≡ false
      by true = refl
      by false = refl

  pub stood-late : Stood v (h ++ e false ∷ [])
  stood-late = stood-quiet v h (e false) stood v.deeds refl refl refl refl (λ from n. refl) late_is

  module _ (r : Receive) (here : slice_get v.receives number ≡ Some r) (deeds : List Deed)
      (done : deeds ≡ deeds_after v.deeds (Cancel number true)) where
    abbrev rs : List Receive
    rs = set v.receives number (has_cancelled r)

    abbrev pub cancelled_view : ReceivingView
    cancelled_view = record v { deeds = deeds; receives = rs }

    at_number : slice_get rs number ≡ Some (has_cancelled r)
    at_number = get_set_same v.receives number (has_cancelled r) (slice_get_within v.receives number r here)

    same_pairs : (k : ℕ) → (k ≡ number) ⊎ (k ≡ number → ⊥)
        → option_and_then (pair_with k) (slice_get rs k) ≡ option_and_then (pair_with k) (slice_get v.receives k)
    same_pairs k (inl same) =
        ap (λ (j : ℕ). option_and_then (pair_with j) (slice_get rs j)) same
        ∙ ap (λ (o : Option Receive). option_and_then (pair_with number) o) at_number
        ∙ sym (ap (λ (o : Option Receive). option_and_then (pair_with number) o) here)
        ∙ ap (λ (j : ℕ). option_and_then (pair_with j) (slice_get v.receives j)) (sym same)
    same_pairs k (inr differ) =
        ap (λ (o : Option Receive). option_and_then (pair_with k) o)
        (get_set_other v.receives number k (has_cancelled r) differ)

    now_cancelled : (k : ℕ) → (k ≡ number) ⊎ (k ≡ number → ⊥)
        → is_cancelled_at (slice_get rs k) ≡ happened (is_cancel k) (h ++ e true ∷ [])
    now_cancelled k (inl same) =
        ap (λ (j : ℕ). is_cancelled_at (slice_get rs j)) same ∙ ap is_cancelled_at at_number
        ∙ sym (happened_now (is_cancel k) h (e true) (ap (λ (b : Bool). b && true) (eq_true number k (sym same))))
    now_cancelled k (inr differ) =
        ap is_cancelled_at (get_set_other v.receives number k (has_cancelled r) differ)
        ∙ stood.cancelled k
        ∙ sym (happened_still (is_cancel k) h (e true)
        (ap (λ (b : Bool). b && true) (unequal number k (λ same. differ (sym same)))))

    pub stood-cancelled : Stood cancelled_view (h ++ e true ∷ [])
    stood-cancelled = record {
      stands = subst (λ (ds : List Deed). Represents ds (h ++ e true ∷ [])) (sym done)
          (stands_push v.deeds h (e true) stood.stands);
      arrived = λ from. stood.arrived from ∙ sym (ap length (arrivals_still h (e true) refl from));
      messages = λ from n. stood.messages from n ∙ sym (message_still h (e true) refl from n);
      whole = λ from n. stood.whole from n ∙ sym (happened_still (is_whole from n) h (e true) refl);
      count = length-set v.receives number (has_cancelled r) ∙ stood.count ∙ sym (receives_still h (e true) refl);
      pairs = λ k. same_pairs k (cases_eq k number) ∙ stood.pairs k
          ∙ sym (pair_still h (h ++ e true ∷ []) None (pairs_still h (e true) refl) k
          (λ q is. absurd (let h' : ⊥ = cc in h')));
      cancelled = λ k. now_cancelled k (cases_eq k number);
      due = due-with h (e true ∷ []) 0 0 None (pairs_still h (e true) refl) v.grants (drawn_from v)
          (λ a is. absurd (let h' : ⊥ = cc in h')) stood.due;
    }
