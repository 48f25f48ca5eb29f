-- Messages with their recalls.
use Rattle.std.proofs.Common.{◌≡◌, ℕ, zero, suc, ◌+◌, ◌<◌, Bool, true, false, ◌&&◌, cond, List, [], ◌∷◌, ◌++◌}
use Rattle.std.proofs.Common.{length, nat_eq, Option, Some, None, is_some, not, refl, sym, ap, subst, ◌∙◌, arith}
use Rattle.std.proofs.Common.{true≢false}
use Rattle.std.specs.List.{slice_get}
use Rattle.std.specs.Map.{lookup}
use Rattle.std.specs.Option.{option_map}
use Rattle.std.proofs.Math.ListN.{set}
use Rattle.std.proofs.lemmas.List.{set-get_or}
use Rattle.std.proofs.lemmas.Option.{get_or_from_slice_get, slice_get_within}
use Rattle.nm_types.proofs.NumberLemmas.{eq_false, eq_less, eq_true, same_number}
use Rattle.nm_types.proofs.TruthLemmas.{and_left}
use Rattle.nm_sending.specs.declared.departures.Departure.{Departure}
use Rattle.nm_sending.specs.Departures.{passes}
use Rattle.nm_sending.specs.Rows.{all_recalled, with_recalled}

module _ (recalls : List (ℕ × Option Bool)) where
  pub length-all : (n : ℕ) (ds : List Departure) → length (all_recalled recalls n ds) ≡ length ds
  length-all n [] = refl
  length-all n (d ∷ ds) = let rest = length-all (n + 1) ds in omega (arith, rest)

  -- a message with its recall
  pub get-all : (n : ℕ) (ds : List Departure) (i : ℕ) → slice_get (all_recalled recalls n ds) i
      ≡ option_map (λ d. with_recalled d (lookup (nat_eq (n + i)) recalls)) (slice_get ds i)
  get-all n [] i = refl
  get-all n (d ∷ ds) zero =
      let same : n ≡ n + 0 = omega arith in
      ap (λ k. Some (with_recalled d (lookup (nat_eq k) recalls))) same
  get-all n (d ∷ ds) (suc i) =
      let same : n + 1 + i ≡ n + suc i = omega arith in
      get-all (n + 1) ds i
      ∙ ap (λ k. option_map (λ x. with_recalled x (lookup (nat_eq k) recalls)) (slice_get ds i)) same

  -- one message more
  pub push-all : (n : ℕ) (ds : List Departure) (x : Departure) → all_recalled recalls n (ds ++ x ∷ [])
      ≡ all_recalled recalls n ds ++ with_recalled x (lookup (nat_eq (n + length ds)) recalls) ∷ []
  push-all n [] x =
      let same : n ≡ n + 0 = omega arith in
      ap (λ k. with_recalled x (lookup (nat_eq k) recalls) ∷ []) same
  push-all n (d ∷ ds) x =
      let same : n + 1 + length ds ≡ n + length (d ∷ ds) = omega arith in
      ap (λ l. with_recalled d (lookup (nat_eq n) recalls) ∷ l)
      (push-all (n + 1) ds x ∙ ap (λ k. all_recalled recalls (n + 1) ds
      ++ with_recalled x (lookup (nat_eq k) recalls) ∷ []) same)

  -- a message that is there, with its recall
  pub get-at : (ds : List Departure) (n : ℕ) (b : Departure) → slice_get ds n ≡ Some b
      → slice_get (all_recalled recalls 0 ds) n ≡ Some (with_recalled b (lookup (nat_eq n) recalls))
  get-at ds n b there =
      let same : 0 + n ≡ n = omega arith in
      get-all 0 ds n
      ∙ ap (λ k. option_map (λ x. with_recalled x (lookup (nat_eq k) recalls)) (slice_get ds n)) same
      ∙ ap (λ o. option_map (λ x. with_recalled x (lookup (nat_eq n) recalls)) o) there

  -- where there is none
  pub none-at : (ds : List Departure) (n : ℕ) → slice_get ds n ≡ None → slice_get (all_recalled recalls 0 ds) n ≡ None
  none-at ds n none =
      get-all 0 ds n ∙ ap (λ o. option_map (λ x. with_recalled x (lookup (nat_eq (0 + n)) recalls)) o) none

  -- what stands without its recall at the place of a message
  pub base-of : (ds : List Departure) (n : ℕ) (d : Departure) → slice_get (all_recalled recalls 0 ds) n ≡ Some d
      → (b : Departure) × (slice_get ds n ≡ Some b) × (d ≡ with_recalled b (lookup (nat_eq n) recalls))
  base-of ds n d there =
      let same : n ≡ 0 + n = omega arith in
      by (slice_get ds n) refl
      (ap (λ k. option_map (λ x. with_recalled x (lookup (nat_eq k) recalls)) (slice_get ds n)) same
      ∙ sym (get-all 0 ds n) ∙ there)
    where
      by : (o : Option Departure) → slice_get ds n ≡ o
          → option_map (λ x. with_recalled x (lookup (nat_eq n) recalls)) o ≡ Some d
          → (b : Departure) × (slice_get ds n ≡ Some b) × (d ≡ with_recalled b (lookup (nat_eq n) recalls))
      by None at is = absurd cc
      by (Some b) at is = let same : with_recalled b (lookup (nat_eq n) recalls) ≡ d = cc in (b, at, sym same)

-- the recall of one message is this one now
module _ (old new : List (ℕ × Option Bool)) (n : ℕ) (recall : Option (Option Bool))
    (step : (q : ℕ) → lookup (nat_eq q) new ≡ cond (nat_eq n q) recall (lookup (nat_eq q) old)) where
  unnamed : (q : ℕ) → nat_eq n q ≡ false → lookup (nat_eq q) new ≡ lookup (nat_eq q) old
  unnamed q other = step q ∙ ap (λ b. cond b recall (lookup (nat_eq q) old)) other

  later : (from : ℕ) (ds : List Departure) → n < from → all_recalled new from ds ≡ all_recalled old from ds
  later from [] after = refl
  later from (d ∷ ds) after =
      ap (λ r. with_recalled d r ∷ all_recalled new (from + 1) ds) (unnamed from (eq_less n from after))
      ∙ ap (λ l. with_recalled d (lookup (nat_eq from) old) ∷ l) (later (from + 1) ds (omega (arith, after)))

  from_on : (from : ℕ) (ds : List Departure) (i : ℕ) (x : Departure) → i < length ds → from + i ≡ n
      → all_recalled new from (set ds i x) ≡ set (all_recalled old from ds) i (with_recalled x recall)
  from_on from [] i x within at = absurd (let no : ⊥ = omega (arith, within) in no)
  from_on from (d ∷ ds) zero x within at =
      let here : n ≡ from = omega (arith, at) in
      ap (λ r. with_recalled x r ∷ all_recalled new (from + 1) ds)
      (step from ∙ ap (λ b. cond b recall (lookup (nat_eq from) old)) (eq_true n from here))
      ∙ ap (λ l. with_recalled x recall ∷ l) (later (from + 1) ds (omega (arith, at)))
  from_on from (d ∷ ds) (suc i) x within at =
      ap (λ r. with_recalled d r ∷ all_recalled new (from + 1) (set ds i x))
      (unnamed from (eq_false n from (omega (arith, at))))
      ∙ ap (λ l. with_recalled d (lookup (nat_eq from) old) ∷ l)
      (from_on (from + 1) ds i x (omega (arith, within)) (omega (arith, at)))

  -- where that message changed, too
  pub set-all : (ds : List Departure) (x : Departure) → n < length ds
      → all_recalled new 0 (set ds n x) ≡ set (all_recalled old 0 ds) n (with_recalled x recall)
  set-all ds x within = from_on 0 ds n x within (omega arith)

  -- where the message is as before
  pub recall-all : (ds : List Departure) (b : Departure) → slice_get ds n ≡ Some b
      → all_recalled new 0 ds ≡ set (all_recalled old 0 ds) n (with_recalled b recall)
  recall-all ds b there =
      ap (λ l. all_recalled new 0 l)
      (sym (ap (λ (y : Departure). set ds n y) (sym (get_or_from_slice_get ds n b b there)) ∙ set-get_or ds n b))
      ∙ set-all ds b (slice_get_within ds n b there)

-- recalls that stay
pub same-step : (recalls : List (ℕ × Option Bool)) (n q : ℕ)
    → lookup (nat_eq q) recalls ≡ cond (nat_eq n q) (lookup (nat_eq n) recalls) (lookup (nat_eq q) recalls)
same-step recalls n q = by (nat_eq n q) refl where
  by : (b : Bool) → nat_eq n q ≡ b
      → lookup (nat_eq q) recalls ≡ cond b (lookup (nat_eq n) recalls) (lookup (nat_eq q) recalls)
  by true is = ap (λ k. lookup (nat_eq k) recalls) (sym (same_number n q is))
  by false is = refl

-- a message that passes is there
pub passing : (test : Departure → Bool) (o : Option Departure) → passes test o ≡ true
    → (d : Departure) × (o ≡ Some d) × (test d ≡ true)
passing test None h = absurd (true≢false (sym h))
passing test (Some d) h = (d, refl, h)

-- one that passes both tests passes the first
pub passes-first : (f g : Departure → Bool) (o : Option Departure) → passes (λ d. f d && g d) o ≡ true
    → passes f o ≡ true
passes-first f g None h = h
passes-first f g (Some d) h = and_left (f d) (g d) h

-- the next message has no recall
pub unknown-next : (recalls : List (ℕ × Option Bool)) (m : ℕ)
    → ((q : ℕ) → is_some (lookup (nat_eq q) recalls) ≡ true → q < m) → lookup (nat_eq (0 + m)) recalls ≡ None
unknown-next recalls m known = by (lookup (nat_eq (0 + m)) recalls) refl where
  by : (o : Option (Option Bool)) → lookup (nat_eq (0 + m)) recalls ≡ o → lookup (nat_eq (0 + m)) recalls ≡ None
  by None at = at
  by (Some r) at = let low = known (0 + m) (ap is_some at) in absurd (let no : ⊥ = omega (arith, low) in no)

no_recall : (o : Option (Option Bool)) → not (is_some o) ≡ true → o ≡ None
no_recall None h = refl
no_recall (Some x) h = absurd (true≢false (sym h))

module _ (recalls : List (ℕ × Option Bool)) (ds : List Departure) (n : ℕ) where
  -- a message that is there is one of them
  pub within-all : (d : Departure) → slice_get (all_recalled recalls 0 ds) n ≡ Some d → n < length ds
  within-all d there =
      let b = base-of recalls ds n d there in
      slice_get_within ds n b.0 b.1

  -- one that was recalled has a recall, and one that was not has none
  pub recalled-at : passes (λ d. d.recalled) (slice_get (all_recalled recalls 0 ds) n) ≡ true
      → is_some (lookup (nat_eq n) recalls) ≡ true
  recalled-at h =
      let p = passing (λ d. d.recalled) (slice_get (all_recalled recalls 0 ds) n) h in
      let b = base-of recalls ds n p.0 p.1 in
      sym (ap (λ (x : Departure). x.recalled) b.2) ∙ p.2

  pub unrecalled-at : passes (λ d. not d.recalled) (slice_get (all_recalled recalls 0 ds) n) ≡ true
      → lookup (nat_eq n) recalls ≡ None
  unrecalled-at h =
      let p = passing (λ d. not d.recalled) (slice_get (all_recalled recalls 0 ds) n) h in
      let b = base-of recalls ds n p.0 p.1 in
      no_recall (lookup (nat_eq n) recalls) (sym (ap (λ (x : Departure). not x.recalled) b.2) ∙ p.2)

  -- a message leaves
  pub leave-all : (b : Departure) → slice_get ds n ≡ Some b → (d : Departure)
      → slice_get (all_recalled recalls 0 ds) n ≡ Some d
      → all_recalled recalls 0 (set ds n (record b { out = true }))
      ≡ set (all_recalled recalls 0 ds) n (record d { out = true })
  leave-all b at d there =
      let base = base-of recalls ds n d there in
      let same : base.0 ≡ b = one_there (sym base.1 ∙ at) in
      set-all recalls recalls n (lookup (nat_eq n) recalls) (same-step recalls n) ds (record b { out = true })
      (slice_get_within ds n b at)
      ∙ ap (λ (x : Departure). set (all_recalled recalls 0 ds) n (record x { out = true }))
      (sym (base.2 ∙ ap (λ (x : Departure). with_recalled x (lookup (nat_eq n) recalls)) same))
    where
      one_there : {x y : Departure} → Some x ≡ Some y → x ≡ y
      one_there e = cc

  module _ (new : List (ℕ × Option Bool)) (recall : Option Bool)
      (step : (q : ℕ) → lookup (nat_eq q) new ≡ cond (nat_eq n q) (Some recall) (lookup (nat_eq q) recalls)) where
    -- a message is recalled
    pub recalled-all : recall ≡ None → lookup (nat_eq n) recalls ≡ None → (d : Departure)
        → slice_get (all_recalled recalls 0 ds) n ≡ Some d
        → all_recalled new 0 ds ≡ set (all_recalled recalls 0 ds) n (record d { recalled = true })
    recalled-all first none d there =
        let b = base-of recalls ds n d there in
        recall-all recalls new n (Some recall) step ds b.0 b.1
        ∙ ap (λ (r : Option Bool). set (all_recalled recalls 0 ds) n (with_recalled b.0 (Some r))) first
        ∙ ap (λ (x : Departure). set (all_recalled recalls 0 ds) n (record x { recalled = true }))
        (sym (b.2 ∙ ap (λ (r : Option (Option Bool)). with_recalled b.0 r) none))

    -- its recall is answered
    pub answered-all : is_some (lookup (nat_eq n) recalls) ≡ true → (d : Departure)
        → slice_get (all_recalled recalls 0 ds) n ≡ Some d
        → all_recalled new 0 ds ≡ set (all_recalled recalls 0 ds) n (record d { undone = recall })
    answered-all known d there =
        let b = base-of recalls ds n d there in
        recall-all recalls new n (Some recall) step ds b.0 b.1
        ∙ ap (λ (r : Bool). set (all_recalled recalls 0 ds) n (record b.0 { recalled = r; undone = recall }))
        (sym known)
        ∙ ap (λ (x : Departure). set (all_recalled recalls 0 ds) n (record x { undone = recall })) (sym b.2)

    -- all recalls are of messages that were sent
    pub known-more : n < length ds → ((q : ℕ) → is_some (lookup (nat_eq q) recalls) ≡ true → q < length ds)
        → (q : ℕ) → is_some (lookup (nat_eq q) new) ≡ true → q < length ds
    known-more within known q is = by (nat_eq n q) refl (sym (ap is_some (step q)) ∙ is)
      where
        by : (b : Bool) → nat_eq n q ≡ b → is_some (cond b (Some recall) (lookup (nat_eq q) recalls)) ≡ true
            → q < length ds
        by true same h = subst (λ (k : ℕ). k < length ds) (same_number n q same) within
        by false other h = known q h
