-- Places in lists: of what passes a test, of what is found, and of pairs.
use Rattle.std.proofs.Common.{◌≡◌, ℕ, ◌+◌, ◌<◌, ◌||◌, zero, suc, Bool, true, false, cond, Option, Some, None, List, []}
use Rattle.std.proofs.Common.{◌∷◌, ◌++◌, length, refl, ◌∙◌, ap, subst, arith, ◌⊎◌, inl, inr}
use Rattle.std.specs.Prelude.{IsSomeAnd, take}
use Rattle.std.specs.List.{filter, find, list_all, list_any, slice_get}
use Rattle.std.proofs.lemmas.Bool.{false≢true}
use Rattle.nm_types.specs.declared.messages.Arrival.{Arrival}
use Rattle.nm_types.specs.declared.messages.Post as post
use Rattle.nm_history.specs.declared.plain.Pair.{Pair}
use Rattle.nm_history.specs.Matching.{pair_of}
use Rattle.nm_match.specs.InTurn.{paired}
use Rattle.nm_types.proofs.OptionLemmas.{no_some, same_some}
use Rattle.nm_types.proofs.TruthLemmas.{and_left, and_right}

pub of_some_and : {X : Type 0} (P : X → Type 0) (o : Option X) (x : X) → o ≡ Some x → IsSomeAnd o P → P x
of_some_and P None x same holds = absurd holds
of_some_and P (Some y) x same holds = subst P (same_some y x same) holds

-- what stands in two lists joined stands in the one or in the other
pub place_split : {X : Type 0} (xs ys : List X) (k : ℕ) (x : X) → slice_get (xs ++ ys) k ≡ Some x →
    (slice_get xs k ≡ Some x) ⊎ ((m : ℕ) × (k ≡ length xs + m) × (slice_get ys m ≡ Some x))
place_split [] ys k x here = inr (k, omega arith, here)
place_split (z ∷ xs) ys zero x here = inl here
place_split (z ∷ xs) ys (suc k) x here = elim (place_split xs ys k x here) [
  | inl first ↦ inl first
  | inr second ↦ inr (second.0, (let at' = second.1 in omega (arith, at')), second.2)
]

pub place_behind : {X : Type 0} (xs ys : List X) (m : ℕ) → slice_get (xs ++ ys) (length xs + m) ≡ slice_get ys m
place_behind [] ys m = ap (λ (k : ℕ). slice_get ys k) (zero_add m)
  where
    zero_add : (m : ℕ) → 0 + m ≡ m
    zero_add m = omega arith
place_behind (x ∷ xs) ys m = ap (λ (k : ℕ). slice_get (x ∷ (xs ++ ys)) k) (suc_add (length xs) m) ∙ place_behind xs ys m
  where
    suc_add : (a m : ℕ) → suc a + m ≡ suc (a + m)
    suc_add a m = omega arith

-- in a filtered list an element stands behind those before it that pass
pub kept_at : {X : Type 0} (test : X → Bool) (xs : List X) (n : ℕ) (x : X) → slice_get xs n ≡ Some x → test x ≡ true →
    slice_get (filter test xs) (length (filter test (take n xs))) ≡ Some x
kept_at test [] n x here passes = absurd (no_some x here)
kept_at test (y ∷ ys) zero x here passes =
    let same : y ≡ x = same_some y x here in
    rw (same, passes) refl
kept_at test (y ∷ ys) (suc n) x here passes = by_test (test y) (kept_at test ys n x here passes)
  where
    by_test : (b : Bool) → slice_get (filter test ys) (length (filter test (take n ys))) ≡ Some x →
        slice_get (cond b (y ∷ filter test ys) (filter test ys))
        (length (cond b (y ∷ filter test (take n ys)) (filter test (take n ys)))) ≡ Some x
    by_test true later = later
    by_test false later = later

pub kept_from : {X : Type 0} (test : X → Bool) (xs : List X) (k : ℕ) (x : X) → slice_get (filter test xs) k ≡ Some x →
    (n : ℕ) × (slice_get xs n ≡ Some x) × (test x ≡ true) × (k ≡ length (filter test (take n xs)))
kept_from test [] k x here = absurd (no_some x here)
kept_from test (y ∷ ys) k x here = by_test (test y) refl (λ j there. kept_from test ys j x there) k here
  where
    by_test : (b : Bool) → test y ≡ b → ((j : ℕ) → slice_get (filter test ys) j ≡ Some x →
        (n : ℕ) × (slice_get ys n ≡ Some x) × (test x ≡ true) × (j ≡ length (filter test (take n ys)))) →
        (k : ℕ) → slice_get (cond b (y ∷ filter test ys) (filter test ys)) k ≡ Some x →
        (n : ℕ) × (slice_get (y ∷ ys) n ≡ Some x) × (test x ≡ true) × (k ≡ length (filter test (take n (y ∷ ys))))
    by_test true passes later zero here =
        let same : y ≡ x = same_some y x here in
        (zero, here, subst (λ z. test z ≡ true) same passes, refl)
    by_test true passes later (suc k) here =
        let more = later k here in
        (suc more.0, more.1, more.2, rw passes (ap (λ (m : ℕ). suc m) more.3))
    by_test false passes later k here =
        let more = later k here in
        (suc more.0, more.1, more.2, rw passes more.3)

-- what is found stands somewhere and passes; where something passes, something is found
pub found_at : {X : Type 0} (test : X → Bool) (xs : List X) (x : X) → find test xs ≡ Some x →
    (n : ℕ) × (slice_get xs n ≡ Some x) × (test x ≡ true)
found_at test [] x found = absurd (no_some x found)
found_at test (y ∷ ys) x found = by_test (test y) refl (found_at test ys x) found
  where
    by_test : (b : Bool) → test y ≡ b →
        (find test ys ≡ Some x → (n : ℕ) × (slice_get ys n ≡ Some x) × (test x ≡ true)) →
        cond b (Some y) (find test ys) ≡ Some x →
        (n : ℕ) × (slice_get (y ∷ ys) n ≡ Some x) × (test x ≡ true)
    by_test true passes later found = (zero, found, subst (λ z. test z ≡ true) (same_some y x found) passes)
    by_test false passes later found = let more = later found in (suc more.0, more.1, more.2)

pub at_found : {X : Type 0} (test : X → Bool) (xs : List X) (n : ℕ) (x : X) → slice_get xs n ≡ Some x → test x ≡ true →
    (y : X) × (find test xs ≡ Some y)
at_found test [] n x here passes = absurd (no_some x here)
at_found test (y ∷ ys) zero x here passes =
    (y, (let same : y ≡ x = same_some y x here in rw (same, passes) refl))
at_found {X = X} test (y ∷ ys) (suc n) x here passes = by_test (test y) (at_found test ys n x here passes)
  where
    by_test : (b : Bool) → ((z : X) × (find test ys ≡ Some z)) → (z : X) × (cond b (Some y) (find test ys) ≡ Some z)
    by_test true later = (y, refl)
    by_test false later = later

pub any_at : {X : Type 0} (test : X → Bool) (xs : List X) → list_any test xs ≡ true →
    (n : ℕ) × (x : X) × (slice_get xs n ≡ Some x) × (test x ≡ true)
any_at test [] some = absurd (false≢true some)
any_at {X = X} test (y ∷ ys) some = by_test (test y) refl (any_at test ys) some
  where
    by_test : (b : Bool) → test y ≡ b → (list_any test ys ≡ true →
        (n : ℕ) × (x : X) × (slice_get ys n ≡ Some x) × (test x ≡ true)) → (b || list_any test ys) ≡ true →
        (n : ℕ) × (x : X) × (slice_get (y ∷ ys) n ≡ Some x) × (test x ≡ true)
    by_test true passes later some = (zero, y, refl, passes)
    by_test false passes later some = let more = later some in (suc more.0, more.1, more.2, more.3)

-- an element of a list passes a test that all pass
pub passes_at : {X : Type 0} (test : X → Bool) (xs : List X) (k : ℕ) (x : X) → list_all test xs ≡ true →
    slice_get xs k ≡ Some x →
    test x ≡ true
passes_at test [] k x all here = absurd (no_some x here)
passes_at test (y ∷ ys) zero x all here =
    subst (λ z. test z ≡ true) (same_some y x here) (and_left (test y) (list_all test ys) all)
passes_at test (y ∷ ys) (suc k) x all here = passes_at test ys k x (and_right (test y) (list_all test ys) all) here

pub at_any : {X : Type 0} (test : X → Bool) (xs : List X) (n : ℕ) (x : X) → slice_get xs n ≡ Some x → test x ≡ true →
    list_any test xs ≡ true
at_any test [] n x here passes = absurd (no_some x here)
at_any test (y ∷ ys) zero x here passes = let same : y ≡ x = same_some y x here in rw (same, passes) refl
at_any test (y ∷ ys) (suc n) x here passes = by_test (test y) (at_any test ys n x here passes)
  where
    by_test : (b : Bool) → list_any test ys ≡ true → (b || list_any test ys) ≡ true
    by_test true later = refl
    by_test false later = later

-- a pair of two lists stands where its two parts do
pub paired_from : (ps : List post.Post) (ms : List Arrival) (k : ℕ) (pair : Pair) →
    slice_get (paired ps ms) k ≡ Some pair →
    (p : post.Post) × (m : Arrival) × (slice_get ps k ≡ Some p) × (slice_get ms k ≡ Some m) × (pair_of p m ≡ pair)
paired_from [] ms k pair here = absurd (no_some pair here)
paired_from (p ∷ ps) [] k pair here = absurd (no_some pair here)
paired_from (p ∷ ps) (m ∷ ms) zero pair here = (p, m, refl, refl, same_some (pair_of p m) pair here)
paired_from (p ∷ ps) (m ∷ ms) (suc k) pair here = paired_from ps ms k pair here

pub paired_at : (ps : List post.Post) (ms : List Arrival) (k : ℕ) (p : post.Post) (m : Arrival) →
    slice_get ps k ≡ Some p → slice_get ms k ≡ Some m → slice_get (paired ps ms) k ≡ Some (pair_of p m)
paired_at [] ms k p m here there = absurd (no_some p here)
paired_at (q ∷ ps) [] k p m here there = absurd (no_some m there)
paired_at (q ∷ ps) (n ∷ ms) zero p m here there =
    let first : q ≡ p = same_some q p here in
    let second : n ≡ m = same_some n m there in
    rw (first, second) refl
paired_at (q ∷ ps) (n ∷ ms) (suc k) p m here there = paired_at ps ms k p m here there

-- each element has its place as its number
abbrev pub AreNumbered : {X : Type 0} → (X → ℕ) → List X → Type 0
AreNumbered {X} number xs = (k : ℕ) (x : X) → slice_get xs k ≡ Some x → number x ≡ k

pub numbered-push : {X : Type 0} (number : X → ℕ) (xs : List X) (x : X) → AreNumbered number xs → number x ≡ length xs →
    AreNumbered number (xs ++ x ∷ [])
numbered-push number xs x each last k y here = elim (place_split xs (x ∷ []) k y here) [
  | inl first ↦ each k y first
  | inr second ↦ only second.0 second.1 second.2
]
  where
    only : (m : ℕ) → k ≡ length xs + m → slice_get (x ∷ []) m ≡ Some y → number y ≡ k
    only zero at' here = let same : x ≡ y = same_some x y here in
        subst (λ z. number z ≡ k) same (last ∙ omega (arith, at'))
    only (suc m) at' here = absurd (no_some y here)
