-- How the tables stand to a history after a message came, or is whole, and after a cancel.
use Rattle.std.proofs.Common.{◌≡◌, ◌≢◌, ℕ, ◌<◌, ◌==◌, Bool, true, false, ◌&&◌}
use Rattle.std.proofs.Common.{Option, Some, None, List, [], ◌∷◌, ◌++◌, length, refl, sym, ◌∙◌, ap, ◌⊎◌, inl, inr}
use Rattle.std.specs.List.{slice_get}
use Rattle.std.specs.Option.{option_map}
use Rattle.std.proofs.Math.ListN.{set}
use Rattle.std.proofs.lemmas.Bool.{cases_eq}
use Rattle.std.proofs.lemmas.List.{length-set}
use Rattle.std.proofs.lemmas.Option.{slice_get_within}
use Rattle.nm_history.specs.declared.events.Event.{Event}
use Rattle.nm_history.specs.declared.events.Happened.TheVariants.{Whole}
use Rattle.nm_history.specs.Happens.{at, happened, is_cancel, is_whole}
use Rattle.nm_match.proofs.StandsLemmas.{stands_push}
use Rattle.nm_receiving.specs.declared.receipts.Receipt.{Receipt}
use Rattle.nm_receiving.specs.Receipts.{ReceivingView, receipts_from, receipt_of, drawn_from}
use Rattle.nm_receiving.specs.Steps.{made_whole, rows_with_whole, with_whole}
use Rattle.nm_receiving.proofs.Dues.{due-with}
use Rattle.nm_receiving.proofs.Grow.{arrivals_still, happened_now, happened_still}
use Rattle.nm_receiving.proofs.Grow.{message_still, pair_still, pairs_still}
use Rattle.nm_receiving.proofs.Lists.{row-other, row-same}
use Rattle.nm_receiving.proofs.Lists.{row_inside}
use Rattle.nm_receiving.proofs.Stood.{Stood, is_whole_at}
use Rattle.nm_types.proofs.NumberLemmas.{unequal, eq_true}
use Rattle.nm_types.proofs.ListLemmas.{get_set_other, get_set_same}
use Rattle.nm_history.proofs.AppendLemmas.{receives_still}

-- message n of this rank is whole
abbrev pub marked : ReceivingView → ℕ → ℕ → ReceivingView
marked v from n = record v { receipts = rows_with_whole v.receipts from n }

whole_else : (from n from' n' : ℕ) → (from' ≡ from → n' ≡ n → ⊥) → (from == from' && n == n') ≡ false
whole_else from n from' n' differ = by (cases_eq from from')
  where
    by : (from ≡ from') ⊎ (from ≡ from' → ⊥) → (from == from' && n == n') ≡ false
    by (inl same) = ap (λ (b : Bool). b && n == n') (eq_true from from' same)
        ∙ unequal n n' (λ same'. differ (sym same) (sym same'))
    by (inr other) = ap (λ (b : Bool). b && n == n') (unequal from from' other)

whole_self : (from n from' n' : ℕ) → from' ≡ from → n' ≡ n → (from == from' && n == n') ≡ true
whole_self from n from' n' same same' =
    ap (λ (b : Bool). b && n == n') (eq_true from from' (sym same)) ∙ eq_true n n' (sym same')

module _ (v : ReceivingView) (h : List Event) (stood : Stood v h) (stamp from n : ℕ) (r : Receipt)
    (here : receipt_of v from n ≡ Some r) where
  abbrev row : List Receipt
  row = receipts_from v from

  inside : from < length v.receipts
  inside = row_inside v.receipts from n r here

  row_is : with_whole row n ≡ set row n (made_whole r)
  row_is = rw here refl

  -- the receipts afterwards
  pub marked_here : receipt_of (marked v from n) from n ≡ Some (made_whole r)
  marked_here =
      ap (λ (xs : List Receipt). slice_get xs n) (row-same v.receipts from (with_whole row n) from refl inside ∙ row_is)
      ∙ get_set_same row n (made_whole r) (slice_get_within row n r here)

  marked_other_n : (k : ℕ) → k ≢ n → receipt_of (marked v from n) from k ≡ receipt_of v from k
  marked_other_n k differ =
      ap (λ (xs : List Receipt). slice_get xs k) (row-same v.receipts from (with_whole row n) from refl inside ∙ row_is)
      ∙ get_set_other row n k (made_whole r) differ

  pub marked_other : (from' k : ℕ) → (from' ≡ from → k ≡ n → ⊥) → receipt_of (marked v from n) from' k
      ≡ receipt_of v from' k
  marked_other from' k differ = by (cases_eq from' from)
    where
      by : (from' ≡ from) ⊎ (from' ≡ from → ⊥) → receipt_of (marked v from n) from' k ≡ receipt_of v from' k
      by (inl same) =
          ap (λ (j : ℕ). receipt_of (marked v from n) j k) same ∙ marked_other_n k (differ same)
          ∙ ap (λ (j : ℕ). receipt_of v j k) (sym same)
      by (inr other) = ap (λ (xs : List Receipt). slice_get xs k)
          (row-other v.receipts from (with_whole row n) from' other)

  pub marked_length : (from' : ℕ) → length (receipts_from (marked v from n) from') ≡ length (receipts_from v from')
  marked_length from' = by (cases_eq from' from)
    where
      by : (from' ≡ from) ⊎ (from' ≡ from → ⊥) → length (receipts_from (marked v from n) from') ≡ length
          (receipts_from v from')
      by (inl same) =
          ap length (row-same v.receipts from (with_whole row n) from' same inside ∙ row_is)
          ∙ length-set row n (made_whole r)
          ∙ ap (λ (j : ℕ). length (receipts_from v j)) (sym same)
      by (inr other) = ap length (row-other v.receipts from (with_whole row n) from' other)

  abbrev P : ℕ → ℕ → Type 0
  P from' k = (from' ≡ from) × (k ≡ n)

  place : (from' k : ℕ) → P from' k ⊎ (from' ≡ from → k ≡ n → ⊥)
  place from' k = by (cases_eq from' from) (cases_eq k n)
    where
      by : (from' ≡ from) ⊎ (from' ≡ from → ⊥) → (k ≡ n) ⊎ (k ≡ n → ⊥) → P from' k ⊎ (from' ≡ from → k ≡ n → ⊥)
      by (inl same) (inl same') = inl (same, same')
      by (inl same) (inr other) = inr (λ _ is. other is)
      by (inr other) right = inr (λ is _. other is)

  abbrev e : Event
  e = at stamp (Whole from n)

  messages_marked : (from' k : ℕ) → P from' k ⊎ (from' ≡ from → k ≡ n → ⊥)
      → option_map (λ m. m.arrival) (receipt_of (marked v from n) from' k) ≡ option_map (λ m. m.arrival)
      (receipt_of v from' k)
  messages_marked from' k (inl same) =
      ap (λ (i : ℕ). option_map (λ m. m.arrival) (receipt_of (marked v from n) i k)) same.0
      ∙ ap (λ (j : ℕ). option_map (λ m. m.arrival) (receipt_of (marked v from n) from j)) same.1
      ∙ ap (λ (o : Option Receipt). option_map (λ m. m.arrival) o) (marked_here ∙ refl)
      ∙ sym (ap (λ (o : Option Receipt). option_map (λ m. m.arrival) o) here)
      ∙ ap (λ (j : ℕ). option_map (λ m. m.arrival) (receipt_of v from j)) (sym same.1)
      ∙ ap (λ (i : ℕ). option_map (λ m. m.arrival) (receipt_of v i k)) (sym same.0)
  messages_marked from' k (inr differ) = ap (λ (o : Option Receipt). option_map (λ m. m.arrival) o)
      (marked_other from' k differ)

  whole_marked : (from' k : ℕ) → P from' k ⊎ (from' ≡ from → k ≡ n → ⊥)
      → is_whole_at (receipt_of (marked v from n) from' k) ≡ happened (is_whole from' k) (h ++ e ∷ [])
  whole_marked from' k (inl same) =
      ap (λ (i : ℕ). is_whole_at (receipt_of (marked v from n) i k)) same.0
      ∙ ap (λ (j : ℕ). is_whole_at (receipt_of (marked v from n) from j)) same.1
      ∙ ap is_whole_at marked_here
      ∙ sym (happened_now (is_whole from' k) h e (whole_self from n from' k same.0 same.1))
  whole_marked from' k (inr differ) =
      ap is_whole_at (marked_other from' k differ) ∙ stood.whole from' k
      ∙ sym (happened_still (is_whole from' k) h e (whole_else from n from' k differ))

  pub stood-marked : Stood (marked v from n) (h ++ e ∷ [])
  stood-marked = record {
    stands = stands_push v.deeds h e stood.stands;
    arrived = λ from'. marked_length from' ∙ stood.arrived from' ∙ sym (ap length (arrivals_still h e refl from'));
    messages = λ from' k. messages_marked from' k (place from' k) ∙ stood.messages from' k
        ∙ sym (message_still h e refl from' k);
    whole = λ from' k. whole_marked from' k (place from' k);
    count = stood.count ∙ sym (receives_still h e refl);
    pairs = λ k. stood.pairs k
        ∙ sym (pair_still h (h ++ e ∷ []) None (pairs_still h e refl) k (λ q is. absurd (let h' : ⊥ = cc in h')));
    cancelled = λ k. stood.cancelled k ∙ sym (happened_still (is_cancel k) h e refl);
    due = due-with h (e ∷ []) 0 0 None (pairs_still h e refl) v.grants (drawn_from v)
        (λ a is. absurd (let h' : ⊥ = cc in h')) stood.due;
  }
