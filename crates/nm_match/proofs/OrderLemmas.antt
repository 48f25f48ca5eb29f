-- What a search finds and leaves, by order numbers and where one at most passes.
use Rattle.std.proofs.Common.{◌≡◌, ℕ, ◌<◌, ◌==◌, Bool, true, false, cond, Option, Some, None}
use Rattle.std.proofs.Common.{List, [], ◌∷◌, ◌++◌, refl, sym, ap, subst, arith}
use Rattle.std.specs.BTreeMap.{insert_entry, is_at}
use Rattle.std.specs.Cmp.{unsigned_tied}
use Rattle.std.specs.List.{All, find}
use Rattle.std.specs.Map.{remove_entry}
use Rattle.std.specs.Ordering.{nat_cmp}
use Rattle.std.specs.Prelude.{AllPairs, nat_lt}
use Rattle.std.proofs.lemmas.Bool.{false_from_ne_true}
use Rattle.std.proofs.lemmas.Bool.Decides.{nat_tests}
use Rattle.std.proofs.lemmas.List.Elements.{All-head, All-tail, All-weaker}
use Rattle.nm_history.proofs.OnceLemmas.{find_among}
use Rattle.nm_match.specs.Buckets.{Rising}
use Rattle.nm_match.specs.Queues.{without_first}
use Rattle.nm_match.proofs.BucketLemmas.{pairs_head, pairs_tail}
use Rattle.nm_match.proofs.ListLemmas.{none_passes}

-- the entry of a key leaves
pub entry_left : {X : Type 0} (n : ℕ) (es : List (ℕ × X)) →
    remove_entry (is_at (nat_cmp n)) es ≡ without_first (λ (e : ℕ × X). n == e.0) es
entry_left n [] = refl
entry_left {X} n (e ∷ es) = λ i. cond (unsigned_tied n e.0 i) es (e ∷ entry_left n es i)

-- a number past all others goes last
pub entry_last : {X : Type 0} (n : ℕ) (x : X) (es : List (ℕ × X)) → All (λ (e : ℕ × X). e.0 < n) es →
    insert_entry nat_cmp es n x ≡ es ++ (n, x) ∷ []
entry_last n x [] below = refl
entry_last {X} n x (e ∷ es) below =
    let here = All-head (λ (e : ℕ × X). e.0 < n) e es below in
    let not_less : nat_lt n e.0 ≡ false = grind (arith, nat_tests) in
    let not_same : (n == e.0) ≡ false = grind (arith, nat_tests) in
    rw (not_less, not_same) (ap (λ (l : List (ℕ × X)). e ∷ l)
    (entry_last n x es (All-tail (λ (e : ℕ × X). e.0 < n) e es below)))

module _ {X : Type 0} (test : ℕ × X → Bool) where
  -- what is found is found by its number
  pub order_found : (xs : List (ℕ × X)) (x : ℕ × X) → Rising xs → find test xs ≡ Some x →
      find (λ (y : ℕ × X). x.0 == y.0) xs ≡ Some x
  order_found [] x rising found = found
  order_found (y ∷ ys) x rising found = at (order_found ys x rising.1) (test y) found
    where
      at : (find test ys ≡ Some x → find (λ (z : ℕ × X). x.0 == z.0) ys ≡ Some x) → (b : Bool) →
          cond b (Some y) (find test ys) ≡ Some x →
          cond (x.0 == y.0) (Some y) (find (λ (z : ℕ × X). x.0 == z.0) ys) ≡ Some x
      at later true found =
          let same : y ≡ x = cc in
          let number : x.0 ≡ y.0 = ap (λ (z : ℕ × X). z.0) (sym same) in
          let here : (x.0 == y.0) ≡ true = grind (arith, nat_tests) in rw here found
      at later false found =
          let above : y.0 < x.0 = find_among (λ (z : ℕ × X). y.0 < z.0) test ys x rising.0 found in
          let other : (x.0 == y.0) ≡ false = grind (arith, nat_tests) in rw other (later found)

  -- and the others are those of other numbers
  pub order_left : (xs : List (ℕ × X)) (x : ℕ × X) → Rising xs → find test xs ≡ Some x →
      without_first (λ (y : ℕ × X). x.0 == y.0) xs ≡ without_first test xs
  order_left [] x rising found = refl
  order_left (y ∷ ys) x rising found = at (order_left ys x rising.1) (test y) found
    where
      at : (find test ys ≡ Some x →
          without_first (λ (z : ℕ × X). x.0 == z.0) ys ≡ without_first test ys) → (b : Bool) →
          cond b (Some y) (find test ys) ≡ Some x →
          cond (x.0 == y.0) ys (y ∷ without_first (λ (z : ℕ × X). x.0 == z.0) ys)
          ≡ cond b ys (y ∷ without_first test ys)
      at later true found =
          let same : y ≡ x = cc in
          let number : x.0 ≡ y.0 = ap (λ (z : ℕ × X). z.0) (sym same) in
          let here : (x.0 == y.0) ≡ true = grind (arith, nat_tests) in rw here refl
      at later false found =
          let above : y.0 < x.0 = find_among (λ (z : ℕ × X). y.0 < z.0) test ys x rising.0 found in
          let other : (x.0 == y.0) ≡ false = grind (arith, nat_tests) in
          rw other (ap (λ (l : List (ℕ × X)). y ∷ l) (later found))

module _ {X : Type 0} (p test : X → Bool) where
  -- one that does not pass was not what was looked for
  pub find_others : (xs : List X) (x : X) → find test xs ≡ Some x → p x ≡ false →
      find p (without_first test xs) ≡ find p xs
  find_others [] x found fails = refl
  find_others (y ∷ ys) x found fails = at (find_others ys x) (test y) found
    where
      at : (find test ys ≡ Some x → p x ≡ false → find p (without_first test ys) ≡ find p ys) → (b : Bool) →
          cond b (Some y) (find test ys) ≡ Some x →
          find p (cond b ys (y ∷ without_first test ys)) ≡ cond (p y) (Some y) (find p ys)
      at later true found =
          let same : x ≡ y = cc in rw (subst (λ (z : X). p z ≡ false) same fails) refl
      at later false found = ap (λ (o : Option X). cond (p y) (Some y) o) (later found fails)

  -- where one at most passes, none does once it left
  pub find_gone : (R : X → X → Type 0) → ((x y : X) → R x y → p x ≡ true → p y ≡ true → ⊥) → (xs : List X) →
      AllPairs R xs → (x : X) → find test xs ≡ Some x → p x ≡ true → find p (without_first test xs) ≡ None
  find_gone R apart [] two x found passes = refl
  find_gone R apart (y ∷ ys) two x found passes =
      at (find_gone R apart ys (pairs_tail R y ys two) x) (test y) found
    where
      at : (find test ys ≡ Some x → p x ≡ true → find p (without_first test ys) ≡ None) → (b : Bool) →
          cond b (Some y) (find test ys) ≡ Some x → find p (cond b ys (y ∷ without_first test ys)) ≡ None
      at later true found =
          let same : x ≡ y = cc in
          none_passes p ys (All-weaker (λ z. R y z) (λ z. p z ≡ false)
          (λ z two. false_from_ne_true (p z)
          (λ also. apart y z two (subst (λ (z : X). p z ≡ true) same passes) also)) ys (pairs_head R y ys two))
      at later false found =
          let fails : p y ≡ false = false_from_ne_true (p y)
          (λ also. apart y x (find_among (λ z. R y z) test ys x (pairs_head R y ys two) found) also passes) in
          rw fails (later found passes)

module _ {X : Type 0} (p test : X → Bool) (R : X → X → Type 0)
    (apart : (x y : X) → R x y → p x ≡ true → p y ≡ true → ⊥) where
  -- where one at most passes, one that passes is the first
  pub find_only : (xs : List X) → AllPairs R xs → (x : X) → find test xs ≡ Some x → p x ≡ true → find p xs ≡ Some x
  find_only [] two x found passes = found
  find_only (y ∷ ys) two x found passes = at (find_only ys (pairs_tail R y ys two) x) (test y) found
    where
      at : (find test ys ≡ Some x → p x ≡ true → find p ys ≡ Some x) → (b : Bool) →
          cond b (Some y) (find test ys) ≡ Some x → cond (p y) (Some y) (find p ys) ≡ Some x
      at later true found =
          let same : x ≡ y = cc in rw (subst (λ (z : X). p z ≡ true) same passes) found
      at later false found =
          let fails : p y ≡ false = false_from_ne_true (p y)
          (λ also. apart y x (find_among (λ z. R y z) test ys x (pairs_head R y ys two) found) also passes) in
          rw fails (later found passes)
