-- The rule on cancels, by the cancels since the last answer.
use Rattle.std.proofs.Common.{◌≡◌, inl, inr, ℕ, ◌+◌, ◌≤◌, ◌||◌, Bool, true, false, cond, Some}
use Rattle.std.proofs.Common.{List, [], ◌∷◌, ◌++◌}
use Rattle.std.proofs.Common.{length, refl, sym, ◌∙◌, ap, subst, arith, length-append, append-nil}
use Rattle.std.specs.Prelude.{All}
use Rattle.std.specs.List.{filter, list_any}
use Rattle.std.proofs.lemmas.Bool.{false≢true, or_cases, or_left, or_right}
use Rattle.std.proofs.lemmas.List.Elements.{All-head, All-pop, All-same, filter-append}
use Rattle.nm_types.specs.Commands.{Numbered}
use Rattle.nm_history.specs.declared.events.Event.{Event}
use Rattle.nm_history.specs.declared.events.Happened.{Happened}
use Rattle.nm_history.specs.declared.events.Happened.TheVariants as happening
use Rattle.nm_history.specs.AtEach.{AtEach}
use Rattle.nm_history.specs.Happens.{happened, is_recall}
use Rattle.nm_history.specs.RankRun.{CancelAt, cancels_since, is_cancelling, since_after}
use Rattle.nm_history.specs.RankRun.{since_command}
use Rattle.nm_history.proofs.AtEachLemmas.{AtEach-front, AtEach-split}
use Rattle.nm_history.proofs.OnceLemmas.{eqb_self}
use Rattle.nm_history.proofs.RankRunLemmas.{since-push}
use Rattle.nm_check_rank.proofs.PushLemmas.{by_pushes, since_happened}

module _ (commands : List Numbered) (to n : ℕ) where
  abbrev Is : Happened → Type 0
  Is x = x ≡ happening.Recall to n

  pub is_that_recall : is_recall to n (happening.Recall to n) ≡ true
  is_that_recall = rw (eqb_self to, eqb_self n) refl

  -- recalls of a message, of which there was none before: there are none
  none_recalled : (h : List Event) (xs : List Happened) → All Is xs →
      (list_any (is_recall to n) xs ≡ true → happened (is_recall to n) h ≡ true) → happened (is_recall to n) h ≡ false →
      length xs ≡ 0
  none_recalled h [] all among none = refl
  none_recalled h (x ∷ xs) all among none =
      let is : x ≡ happening.Recall to n = All-head Is x xs all in
      let first : is_recall to n x ≡ true = ap (λ (y : Happened). is_recall to n y) is ∙ is_that_recall in
      absurd (false≢true (sym none ∙ among (ap (λ (b : Bool). b || list_any (is_recall to n) xs) first)))

  pub some_of_kind : (q p : Happened → Bool) (xs : List Happened) → list_any q (filter p xs) ≡ true →
      list_any q xs ≡ true
  some_of_kind q p [] some = some
  some_of_kind q p (x ∷ xs) some = by_kind (p x) some (some_of_kind q p xs)
    where
      by_kind : (b : Bool) → list_any q (cond b (x ∷ filter p xs) (filter p xs)) ≡ true →
          (list_any q (filter p xs) ≡ true → list_any q xs ≡ true) → (q x || list_any q xs) ≡ true
      by_kind true some more =
          elim (or_cases (q x) (list_any q (filter p xs)) some) [
            | inl first ↦ or_left (q x) (list_any q xs) first
            | inr later ↦ or_right (q x) (list_any q xs) (more later)
          ]
      by_kind false some more = or_right (q x) (list_any q xs) (more some)

  abbrev FewRecalls : List Event → Type 0
  FewRecalls h =
      AtEach (λ before e. CancelAt commands before e.what) h → All Is (cancels_since h) → length (cancels_since h) ≤ 1

  fresh_of : (h : List Event) {to' n' : ℕ} → happening.Recall to' n' ≡ happening.Recall to n →
      happened (is_recall to' n') h ≡ false → happened (is_recall to n) h ≡ false
  fresh_of h {to' = t} {n' = m} same none =
      let tos : t ≡ to = cc in
      let ns : m ≡ n = cc in
      subst (λ (x : ℕ). happened (is_recall x n) h ≡ false) tos
      (subst (λ (y : ℕ). happened (is_recall t y) h ≡ false) ns none)

  is_no_recall : (number : ℕ) (done : Bool) → happening.Cancel number done ≡ happening.Recall to n → ⊥
  is_no_recall number done same = cc

  other_step : (h : List Event) (what : Happened) → is_cancelling what ≡ false →
      (All Is (cancels_since h) → length (cancels_since h) ≤ 1) →
      All Is (filter is_cancelling (since_command h ++ what ∷ [])) →
      length (filter is_cancelling (since_command h ++ what ∷ [])) ≤ 1
  other_step h what other few all =
      let same : filter is_cancelling (since_command h ++ what ∷ []) ≡ cancels_since h =
      filter-append is_cancelling (since_command h) (what ∷ [])
      ∙ ap (λ (b : Bool). cancels_since h ++ cond b (what ∷ []) []) other ∙ append-nil (cancels_since h) in
      subst (λ (xs : List Happened). length xs ≤ 1) (sym same)
      (few (All-same Is (cancels_since h) (filter is_cancelling (since_command h ++ what ∷ [])) (sym same) all))

  -- one event more
  after_what : (h : List Event) (what : Happened) → (All Is (cancels_since h) → length (cancels_since h) ≤ 1) →
      CancelAt commands h what → All Is (filter is_cancelling (since_after (since_command h) what)) →
      length (filter is_cancelling (since_after (since_command h) what)) ≤ 1
  after_what h (happening.Ran line answer) few right all = omega arith
  after_what h (happening.Recall to' n') few right all =
      let x : Happened = happening.Recall to' n' in
      let parted : filter is_cancelling (since_command h ++ x ∷ []) ≡ cancels_since h ++ x ∷ [] =
      filter-append is_cancelling (since_command h) (x ∷ []) in
      let parts = All-pop Is (filter is_cancelling (since_command h ++ x ∷ [])) (cancels_since h) (Some x) parted all in
      let fresh : happened (is_recall to n) h ≡ false = fresh_of h parts.1 right.0 in
      let none = none_recalled h (cancels_since h) parts.0
      (λ some. since_happened (is_recall to n) h (some_of_kind (is_recall to n) is_cancelling
      (since_command h) some)) fresh in
      let both : length (filter is_cancelling (since_command h ++ x ∷ [])) ≡ length (cancels_since h) + 1 =
      ap length parted ∙ length-append (cancels_since h) (x ∷ []) in
      omega (arith, both, none)
  after_what h (happening.Cancel number done) few right all =
      let x : Happened = happening.Cancel number done in
      let parted : filter is_cancelling (since_command h ++ x ∷ []) ≡ cancels_since h ++ x ∷ [] =
      filter-append is_cancelling (since_command h) (x ∷ []) in
      let parts = All-pop Is (filter is_cancelling (since_command h ++ x ∷ [])) (cancels_since h) (Some x) parted all in
      absurd (is_no_recall number done parts.1)
  after_what h what few right all = other_step h what refl few all

  few_step : (h : List Event) (e : Event) → FewRecalls h → FewRecalls (h ++ e ∷ [])
  few_step h e before each all =
      let grown : cancels_since (h ++ e ∷ []) ≡ filter is_cancelling (since_after (since_command h) e.what) =
      ap (λ (xs : List Happened). filter is_cancelling xs) (since-push h e) in
      subst (λ (xs : List Happened). length xs ≤ 1) (sym grown)
      (after_what h e.what (before (AtEach-front (λ before e. CancelAt commands before e.what) h e each))
      (AtEach-split (λ before e. CancelAt commands before e.what) h e [] each)
      (All-same Is (filter is_cancelling (since_after (since_command h) e.what)) (cancels_since (h ++ e ∷ []))
      (sym grown) all))

  -- there is at most one recall of a message since the last answer
  pub few_recalls : (h : List Event) → FewRecalls h
  few_recalls h = by_pushes FewRecalls few_step (λ each all. omega arith) h

  pub no_two_recalls : (h : List Event) → AtEach (λ before e. CancelAt commands before e.what) h →
      2 ≤ length (cancels_since h) → All Is (cancels_since h) → ⊥
  no_two_recalls h each two all = let one = few_recalls h each all in omega (arith, one, two)
