-- The first place that passes a test, looked for from some place on.
use Rattle.std.proofs.Common.{◌≡◌, ℕ, ◌+◌, ◌<◌, ◌≤◌, ◌++◌, Bool, true, false, not, List, [], ◌∷◌}
use Rattle.std.proofs.Common.{length}
use Rattle.std.proofs.Common.{get_or, slice_get, find, IsNone, Option, Some, None, refl, sym, ap}
use Rattle.std.proofs.Common.{◌∙◌, true≢false, cond}
use Rattle.std.proofs.Common.{arith, ◌⊎◌, inl, inr}
use Rattle.std.proofs.lemmas.Bool.{cases_lt}
use Rattle.std.specs.List.{position_or_len}
use Rattle.std.specs.Option.{option_map_or}
use Rattle.std.proofs.lemmas.List.Sums.{fails_before_first, passes_at_first, prefix_len-le-length}
use Rattle.std.proofs.lemmas.Option.{get_or_from_slice_get, slice_get-get_or, slice_get_within}
use Rattle.std.proofs.lemmas.List.Folds.{find_at}

-- what passes is there
pub some_is : {X : Type 0} (p : X → Bool) (o : Option X) → option_map_or p o false ≡ true →
    (x : X) × (o ≡ Some x) × (p x ≡ true)
some_is p None h = absurd (true≢false (sym h))
some_is p (Some x) h = (x, refl, h)

is_none : {X : Type 0} (o : Option X) → IsNone o → o ≡ None
is_none None h = refl
is_none (Some x) h = absurd (true≢false h)

-- where nothing stands there is no place
pub none_within : {X : Type 0} (xs : List X) (i : ℕ) → slice_get xs i ≡ None → i < length xs → ⊥
none_within [] i h lt = omega arith
none_within (x ∷ xs) i h lt = let e = sym h ∙ slice_get-get_or (x ∷ xs) i x lt in cc

module _ {X : Type 0} (p : X → Bool) (xs : List X) where
  -- an element that passes, with none before it that does, is the first
  pub first_here : (i : ℕ) → i ≤ position_or_len p xs → option_map_or p (slice_get xs i) false ≡ true →
      i ≡ position_or_len p xs
  first_here i low here =
      let at = some_is p (slice_get xs i) here in
      let past : (i < position_or_len p xs) → ⊥ = λ lt. true≢false
      (sym at.2 ∙ ap p (sym (get_or_from_slice_get xs i at.0 at.0 at.1)) ∙ fails_before_first p xs i at.0 lt) in
      omega (arith, past)

  -- an element that does not pass is not the first
  pub first_later : (i : ℕ) → i ≤ position_or_len p xs → option_map_or p (slice_get xs i) false ≡ false →
      i < length xs → i + 1 ≤ position_or_len p xs
  first_later i low fail within =
      let not_here : i ≡ position_or_len p xs → ⊥ = λ e. no_pass (slice_get xs i) refl fail
      (let h : position_or_len p xs < length xs = omega arith in h) e in
      omega (arith, not_here)
    where
      no_pass : (o : Option X) → slice_get xs i ≡ o → option_map_or p o false ≡ false →
          position_or_len p xs < length xs → i ≡ position_or_len p xs → ⊥
      no_pass None at fail lt e = none_within xs i at (omega arith)
      no_pass (Some x) at fail lt e = true≢false (sym (passes_at_first p xs x lt)
          ∙ ap p (ap (λ k. get_or xs k x) (sym e) ∙ get_or_from_slice_get xs i x x at) ∙ fail)

  -- past the end there is none
  pub first_nowhere : (i : ℕ) → i ≤ position_or_len p xs → length xs ≤ i → length xs ≡ position_or_len p xs
  first_nowhere i low past = omega (arith, prefix_len-le-length (λ x. not (p x)) xs)

  -- the element at the first place passes
  pub passes_there : (i : ℕ) (x : X) → i ≡ position_or_len p xs → slice_get xs i ≡ Some x → p x ≡ true
  passes_there i x first at =
      let within = slice_get_within xs i x at in
      let lt : position_or_len p xs < length xs = omega arith in
      ap p (sym (get_or_from_slice_get xs i x x at) ∙ ap (λ k. get_or xs k x) first) ∙ passes_at_first p xs x lt

  -- where none is found, none passes
  pub none_found : IsNone (find p xs) → (k : ℕ) (d : X) → k < length xs → p (get_or xs k d) ≡ false
  none_found none k d lt =
      let out : position_or_len p xs < length xs → ⊥ =
      none_within xs (position_or_len p xs) (sym (find_at p xs) ∙ is_none (find p xs) none) in
      fails_before_first p xs k d (omega (arith, out))

  -- where none passes, none is found
  pub found_none : ((k : ℕ) (d : X) → k < length xs → p (get_or xs k d) ≡ false) → IsNone (find p xs)
  found_none fail = by (slice_get xs (position_or_len p xs)) refl
    where
      by : (o : Option X) → slice_get xs (position_or_len p xs) ≡ o → IsNone (find p xs)
      by None at = rw (find_at p xs, at) refl
      by (Some x) at =
          let here = passes_there (position_or_len p xs) x refl at in
          let not' = fail (position_or_len p xs) x (slice_get_within xs (position_or_len p xs) x at) in
          absurd (true≢false (sym here ∙ ap p (sym (get_or_from_slice_get xs (position_or_len p xs) x x at)) ∙ not'))

  -- what is found is what stands at the first place
  pub find-first : (i : ℕ) → i ≡ position_or_len p xs → find p xs ≡ slice_get xs i
  find-first i first = find_at p xs ∙ ap (slice_get xs) (sym first)

step-le : (a b : Bool) (m n : ℕ) → (b ≡ true → a ≡ true) → m ≤ n → cond (not a) (1 + m) 0 ≤ cond (not b) (1 + n) 0
step-le true b m n h le = omega arith
step-le false true m n h le = absurd (true≢false (sym (h refl)))
step-le false false m n h le = omega arith

-- more at the end leaves the first place, or moves it on
pub position_or_len-append_le : {X : Type 0} (p : X → Bool) (xs ys : List X) →
    position_or_len p xs ≤ position_or_len p (xs ++ ys)
position_or_len-append_le p [] ys = omega arith
position_or_len-append_le p (x ∷ xs) ys =
    step-le (p x) (p x) (position_or_len p xs) (position_or_len p (xs ++ ys)) (λ h. h)
    (position_or_len-append_le p xs ys)

-- a later test that passes only where an earlier one did has its first place no earlier
pub position_or_len-le : {X : Type 0} (p q : X → Bool) (xs : List X) →
    ((k : ℕ) (d : X) → k < length xs → q (get_or xs k d) ≡ true → p (get_or xs k d) ≡ true) → X →
    position_or_len p xs ≤ position_or_len q xs
position_or_len-le p q xs back d = by (cases_lt (position_or_len q xs) (position_or_len p xs))
  where
    by : (position_or_len q xs < position_or_len p xs) ⊎ (position_or_len p xs ≤ position_or_len q xs) →
        position_or_len p xs ≤ position_or_len q xs
    by (inr le) = le
    by (inl lt) =
        let within : position_or_len q xs < length xs = omega (arith, prefix_len-le-length (λ x. not (p x)) xs) in
        let late = back (position_or_len q xs) d within (passes_at_first q xs d within) in
        absurd (true≢false (sym late ∙ fails_before_first p xs (position_or_len q xs) d lt))

-- two tests that agree have the same first place
pub position_or_len-same : {X : Type 0} (p q : X → Bool) → ((x : X) → p x ≡ q x) → (xs : List X) →
    position_or_len p xs ≡ position_or_len q xs
position_or_len-same p q same [] = refl
position_or_len-same p q same (x ∷ xs) =
    ap (λ b. cond (not b) (1 + position_or_len p xs) 0) (same x)
    ∙ ap (λ m. cond (not (q x)) (1 + m) 0) (position_or_len-same p q same xs)
