-- Messages by destination and number, when one of them is replaced and when there is one more.
use Rattle.std.proofs.Common.{◌≡◌, ◌≢◌, ℕ, ◌+◌, ◌<◌, ◌≤◌, ◌==◌, ◌⊎◌, inl, inr, Bool, true, false, ◌&&◌, ◌||◌}
use Rattle.std.proofs.Common.{cond, Option, Some, List, [], ◌∷◌, ◌++◌, length, get_or, refl, sym, ◌∙◌}
use Rattle.std.proofs.Common.{ap, arith}
use Rattle.std.specs.List.{slice_get}
use Rattle.std.proofs.Math.ListN.{set, get_or-append}
use Rattle.std.proofs.lemmas.Bool.{cases_lt}
use Rattle.std.proofs.lemmas.Bool.Decides.{nat_tests}
use Rattle.std.proofs.lemmas.Grind.{get_or-set_at}
use Rattle.std.proofs.lemmas.List.{get_or-set_other, get_or_push, length-set, length-append}
use Rattle.std.proofs.lemmas.Option.{slice_get-get_or, slice_get_past}
use Rattle.nm_sending.specs.declared.departures.Departure.{Departure}
use Rattle.nm_sending.specs.Departures.{row_of, with_departure, passes}
use Rattle.nm_types.proofs.NumberLemmas.{same_number, differ}
use Rattle.nm_types.proofs.TruthLemmas.{and_left, and_right}

pub eq_swap : (x y : ℕ) → (x == y) ≡ (y == x)
eq_swap x y = grind (arith, nat_tests)

-- an element is replaced
pub get-set : {X : Type 0} (xs : List X) (n k : ℕ) (x : X) → n < length xs
    → slice_get (set xs n x) k ≡ cond (n == k) (Some x) (slice_get xs k)
get-set xs n k x below = by_test (n == k) refl where
  len : length (set xs n x) ≡ length xs
  len = length-set xs n x

  by_place : (k < length xs) ⊎ (length xs ≤ k) → k ≢ n → slice_get (set xs n x) k ≡ slice_get xs k
  by_place (inl inside) other =
      slice_get-get_or (set xs n x) k x (omega (arith, len))
      ∙ ap (λ y. Some y) (get_or-set_other xs n k x x other) ∙ sym (slice_get-get_or xs k x inside)
  by_place (inr past) other =
      slice_get_past (set xs n x) k (omega (arith, len)) ∙ sym (slice_get_past xs k past)

  by_test : (b : Bool) → (n == k) ≡ b → slice_get (set xs n x) k ≡ cond b (Some x) (slice_get xs k)
  by_test true is =
      let here : k ≡ n = sym (same_number n k is) in
      slice_get-get_or (set xs n x) k x (omega (arith, len, here))
      ∙ ap (λ y. Some y) (get_or-set_at xs n k x x here below)
  by_test false is = by_place (cases_lt k (length xs)) (differ n k is)

-- there is one element more
pub get-push : {X : Type 0} (xs : List X) (k : ℕ) (x : X)
    → slice_get (xs ++ x ∷ []) k ≡ cond (length xs == k) (Some x) (slice_get xs k)
get-push xs k x = by_test (length xs == k) refl where
  len : length (xs ++ x ∷ []) ≡ length xs + 1
  len = length-append xs (x ∷ [])

  by_place : (k < length xs) ⊎ (length xs ≤ k) → k ≢ length xs
      → slice_get (xs ++ x ∷ []) k ≡ slice_get xs k
  by_place (inl inside) other =
      slice_get-get_or (xs ++ x ∷ []) k x (omega (arith, len))
      ∙ ap (λ y. Some y) (get_or-append xs (x ∷ []) x k inside) ∙ sym (slice_get-get_or xs k x inside)
  by_place (inr past) other =
      slice_get_past (xs ++ x ∷ []) k (omega (arith, len)) ∙ sym (slice_get_past xs k past)

  by_test : (b : Bool) → (length xs == k) ≡ b
      → slice_get (xs ++ x ∷ []) k ≡ cond b (Some x) (slice_get xs k)
  by_test true is =
      let here : length xs ≡ k = same_number (length xs) k is in
      slice_get-get_or (xs ++ x ∷ []) k x (omega (arith, len, here))
      ∙ ap (λ y. Some y) (get_or_push xs x x k here)
  by_test false is = by_place (cases_lt k (length xs)) (differ (length xs) k is)

-- a row is replaced
pub row-set : {X : Type 0} (rows : List X) (to t : ℕ) (row d : X) → to < length rows
    → get_or (set rows to row) t d ≡ cond (to == t) row (get_or rows t d)
row-set rows to t row d below = by_test (to == t) refl where
  by_test : (b : Bool) → (to == t) ≡ b → get_or (set rows to row) t d ≡ cond b row (get_or rows t d)
  by_test true is = get_or-set_at rows to t row d (sym (same_number to t is)) below
  by_test false is = get_or-set_other rows to t row d (differ to t is)

module _ (rows : List (List Departure)) (to : ℕ) (below : to < length rows) where
  -- what stands in a row that is replaced
  row-get : (row : List Departure) (n : ℕ) (d : Departure)
      → ((k : ℕ) → slice_get row k ≡ cond (n == k) (Some d) (slice_get (row_of rows to) k)) → (t k : ℕ)
      → slice_get (row_of (set rows to row) t) k
      ≡ cond (to == t && n == k) (Some d) (slice_get (row_of rows t) k)
  row-get row n d each t k =
      ap (λ (r : List Departure). slice_get r k) (row-set rows to t row [] below)
      ∙ by_test (to == t) refl
    where
      by_test : (b : Bool) → (to == t) ≡ b → slice_get (cond b row (row_of rows t)) k
          ≡ cond (b && n == k) (Some d) (slice_get (row_of rows t) k)
      by_test true is = each k ∙ ap (λ (x : ℕ). cond (n == k) (Some d) (slice_get (row_of rows x) k))
          (same_number to t is)
      by_test false is = refl

  pub departure-set : (n : ℕ) (d : Departure) → n < length (row_of rows to) → (t k : ℕ)
      → slice_get (row_of (with_departure rows to n d) t) k
      ≡ cond (to == t && n == k) (Some d) (slice_get (row_of rows t) k)
  departure-set n d inside =
      row-get (set (row_of rows to) n d) n d (λ k. get-set (row_of rows to) n k d inside)

  pub departure-push : (d : Departure) → (t k : ℕ)
      → slice_get (row_of (set rows to (row_of rows to ++ d ∷ [])) t) k
      ≡ cond (to == t && length (row_of rows to) == k) (Some d) (slice_get (row_of rows t) k)
  departure-push d =
      row-get (row_of rows to ++ d ∷ []) (length (row_of rows to)) d (λ k. get-push (row_of rows to) k d)

  pub length-departure_set : (n : ℕ) (d : Departure) → (t : ℕ)
      → length (row_of (with_departure rows to n d) t) ≡ length (row_of rows t)
  length-departure_set n d t =
      ap (λ (r : List Departure). length r) (row-set rows to t (set (row_of rows to) n d) [] below)
      ∙ by_test (to == t) refl
    where
      by_test : (b : Bool) → (to == t) ≡ b → length (cond b (set (row_of rows to) n d) (row_of rows t))
          ≡ length (row_of rows t)
      by_test true is = length-set (row_of rows to) n d
          ∙ ap (λ (x : ℕ). length (row_of rows x)) (same_number to t is)
      by_test false is = refl

  pub length-departure_push : (d : Departure) → (t : ℕ)
      → length (row_of (set rows to (row_of rows to ++ d ∷ [])) t)
      ≡ length (row_of rows t) + cond (to == t) 1 0
  length-departure_push d t =
      ap (λ (r : List Departure). length r) (row-set rows to t (row_of rows to ++ d ∷ []) [] below)
      ∙ by_test (to == t) refl
    where
      by_test : (b : Bool) → (to == t) ≡ b → length (cond b (row_of rows to ++ d ∷ []) (row_of rows t))
          ≡ length (row_of rows t) + cond b 1 0
      by_test true is = length-append (row_of rows to) (d ∷ [])
          ∙ ap (λ (x : ℕ). length (row_of rows x) + 1) (same_number to t is)
      by_test false is = omega arith

-- The message at this place, which was this one or none, is that one now, and all others are as before.
pub record Steps (old new : ℕ → ℕ → Option Departure) (to n : ℕ) (o : Option Departure) (d : Departure)
    : Type 0 where
  pub was : old to n ≡ o
  pub are : (t k : ℕ) → new t k ≡ cond (to == t && n == k) (Some d) (old t k)

module _ (old new : ℕ → ℕ → Option Departure) (to n : ℕ) (o : Option Departure) (d : Departure)
    (step : Steps old new to n o d) (f : Departure → Bool) (t k : ℕ) where
  here : (to == t && n == k) ≡ true → old t k ≡ o
  here is =
      let same_to : to ≡ t = same_number to t (and_left (to == t) (n == k) is) in
      let same_n : n ≡ k = same_number n k (and_right (to == t) (n == k) is) in
      ap (λ (x : ℕ). old x k) (sym same_to) ∙ ap (λ (x : ℕ). old to x) (sym same_n) ∙ step.was

  -- a test that says of the new one what it said before, and of this, changes so
  pub passes-step : (x : Bool) → f d ≡ (passes f o || x)
      → passes f (new t k) ≡ (passes f (old t k) || ((to == t && n == k) && x))
  passes-step x is =
      ap (λ (p : Option Departure). passes f p) (step.are t k) ∙ by_test (to == t && n == k) refl
    where
      or_false : (b : Bool) → b ≡ (b || false)
      or_false true = refl
      or_false false = refl

      by_test : (b : Bool) → (to == t && n == k) ≡ b
          → passes f (cond b (Some d) (old t k)) ≡ (passes f (old t k) || (b && x))
      by_test true e = is ∙ ap (λ (p : Option Departure). passes f p || x) (sym (here e))
      by_test false e = or_false (passes f (old t k))

  -- a test that the new one passes
  pub passes-more : f d ≡ true → passes f (new t k) ≡ (passes f (old t k) || (to == t && n == k))
  passes-more is =
      ap (λ (p : Option Departure). passes f p) (step.are t k) ∙ by_test (to == t && n == k)
    where
      or_true : (b : Bool) → true ≡ (b || true)
      or_true true = refl
      or_true false = refl

      or_false : (b : Bool) → b ≡ (b || false)
      or_false true = refl
      or_false false = refl

      by_test : (b : Bool) → passes f (cond b (Some d) (old t k)) ≡ (passes f (old t k) || b)
      by_test true = is ∙ or_true (passes f (old t k))
      by_test false = or_false (passes f (old t k))

  -- one that says the same of it says the same of all
  pub passes-same : f d ≡ passes f o → passes f (new t k) ≡ passes f (old t k)
  passes-same is =
      ap (λ (p : Option Departure). passes f p) (step.are t k) ∙ by_test (to == t && n == k) refl
    where
      by_test : (b : Bool) → (to == t && n == k) ≡ b
          → passes f (cond b (Some d) (old t k)) ≡ passes f (old t k)
      by_test true e = is ∙ ap (λ (p : Option Departure). passes f p) (sym (here e))
      by_test false e = refl
