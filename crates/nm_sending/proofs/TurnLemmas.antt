-- The order in which cleared messages leave.
use Rattle.std.proofs.Common.{◌≡◌, ℕ, ◌==◌, Bool, true, false, not, ◌||◌, cond, Some}
use Rattle.std.proofs.Common.{List, [], ◌∷◌, ◌++◌, map, filter, find, refl, sym, ◌∙◌, ap}
use Rattle.std.proofs.Common.{true≢false}
use Rattle.std.proofs.lemmas.List.{map-append}
use Rattle.std.proofs.lemmas.List.Elements.{filter-append}
use Rattle.std.proofs.lemmas.List.Folds.{list_any-append}
use Rattle.nm_history.specs.declared.events.Event.{Event}
use Rattle.nm_history.proofs.Basic.{self_true}
use Rattle.nm_history.specs.Clearance.{pushed_out}
use Rattle.nm_history.specs.Continues.{AreApart, has}
use Rattle.nm_history.specs.Effects.{is_empty_send}
use Rattle.nm_rndv.specs.Offers.{Destined, leaves}
use Rattle.nm_sending.specs.Departures.{SendingView, cleared_to, leaving_to}
use Rattle.nm_types.proofs.NumberLemmas.{same_number}

-- the messages that were cleared left in turn
abbrev pub InTurn : SendingView → List Event → Type 0
InTurn v h =
    (to : ℕ) →
    filter (λ n. not (is_empty_send h to n)) (cleared_to v to) ≡ pushed_out h to ++ leaving_to v to

-- tests that agree on all numbers but one, which is not among these
pub filter-apart : (p q : ℕ → Bool) (n : ℕ) (ns : List ℕ) → has ns n ≡ false
    → ((k : ℕ) → (n == k) ≡ false → p k ≡ q k) → filter p ns ≡ filter q ns
filter-apart p q n [] none each = refl
filter-apart p q n (m ∷ ns) none each =
    rw (
      each m (apart (m == n) (n == m) (swap m n) (has ns n) none),
      filter-apart p q n ns (later (m == n) (has ns n) none) each,
    ) refl
  where
    swap : (a b : ℕ) → (a == b) ≡ (b == a)
    swap a b = by_test (a == b) refl (b == a) refl where
      by_test : (x : Bool) → (a == b) ≡ x → (y : Bool) → (b == a) ≡ y → x ≡ y
      by_test true e true f = refl
      by_test false e false f = refl
      by_test true e false f =
          absurd (true≢false (sym (self_true b) ∙ ap (λ (k : ℕ). b == k) (sym (same_number a b e)) ∙ f))
      by_test false e true f =
          absurd (true≢false (sym (self_true a) ∙ ap (λ (k : ℕ). a == k) (sym (same_number b a f)) ∙ e))

    apart : (x y : Bool) → x ≡ y → (z : Bool) → (x || z) ≡ false → y ≡ false
    apart true y same z h = absurd (true≢false h)
    apart false y same z h = sym same

    later : (x z : Bool) → (x || z) ≡ false → z ≡ false
    later true z h = absurd (true≢false h)
    later false z h = h

-- of numbers that are apart the first that passes is taken out
pub filter-without : (p q : ℕ → Bool) (n : ℕ) (ns rest : List ℕ) → AreApart ns → filter p ns ≡ n ∷ rest
    → q n ≡ false → ((k : ℕ) → (n == k) ≡ false → q k ≡ p k) → filter q ns ≡ rest
filter-without p q n [] rest apart is out each = absurd cc
filter-without p q n (m ∷ ns) rest apart is out each =
    by_test (p m) refl is (λ list. filter-without p q n ns rest apart.1 list out each)
  where
    by_test : (b : Bool) → p m ≡ b → cond b (m ∷ filter p ns) (filter p ns) ≡ n ∷ rest
        → (filter p ns ≡ n ∷ rest → filter q ns ≡ rest)
        → cond (q m) (m ∷ filter q ns) (filter q ns) ≡ rest
    by_test true e list again =
        let same : m ≡ n = cc in
        let tail : filter p ns ≡ rest = cc in
        let off : q m ≡ false = ap q same ∙ out in
        let none : has ns n ≡ false = ap (λ (k : ℕ). has ns k) (sym same) ∙ apart.0 in
        rw off (filter-apart q p n ns none each ∙ tail)
    by_test false e list again =
        rw (not_here (n == m) refl) (again list)
      where
        not_here : (b : Bool) → (n == m) ≡ b → q m ≡ false
        not_here true same = ap q (sym (same_number n m same)) ∙ out
        not_here false other = each m other ∙ e

-- messages to a rank in an order of messages to all
abbrev pub numbers_to : ℕ → List (ℕ × ℕ) → List ℕ
numbers_to to ms = map (λ m. m.1) (filter (λ m. m.0 == to) ms)

-- the first of all that leave is the first of its rank
pub first_of_rank : (ds : List Destined) (order : List (ℕ × ℕ)) (m : ℕ × ℕ) → find (leaves ds) order ≡ Some m
    → (rest : List ℕ) × (filter (λ n. leaves ds (m.0, n)) (numbers_to m.0 order) ≡ m.1 ∷ rest)
first_of_rank ds [] m found = absurd cc
first_of_rank ds (x ∷ order) m found =
    by_test (leaves ds x) refl found (λ later. first_of_rank ds order m later)
  where
    by_test : (b : Bool) → leaves ds x ≡ b → cond b (Some x) (find (leaves ds) order) ≡ Some m
        → (find (leaves ds) order ≡ Some m → (rest : List ℕ)
        × (filter (λ n. leaves ds (m.0, n)) (numbers_to m.0 order) ≡ m.1 ∷ rest))
        → (rest : List ℕ) × (filter (λ n. leaves ds (m.0, n)) (numbers_to m.0 (x ∷ order)) ≡ m.1 ∷ rest)
    by_test true e is again =
        let same : x ≡ m = cc in
        let here : (x.0 == m.0) ≡ true = ap (λ (k : ℕ × ℕ). x.0 == k.0) (sym same) ∙ self_true x.0 in
        let out : leaves ds (m.0, x.1) ≡ true = ap (λ (k : ℕ × ℕ). leaves ds (k.0, x.1)) (sym same) ∙ e in
        let rest : List ℕ = filter (λ n. leaves ds (m.0, n)) (numbers_to m.0 order) in
        (rest, rw (here, out) (ap (λ (k : ℕ × ℕ). k.1 ∷ rest) same))
    by_test false e is again = skip (x.0 == m.0) refl (again is) where
      skip : (b : Bool) → (x.0 == m.0) ≡ b
          → ((rest : List ℕ) × (filter (λ n. leaves ds (m.0, n)) (numbers_to m.0 order) ≡ m.1 ∷ rest))
          → (rest : List ℕ) × (filter (λ n. leaves ds (m.0, n))
          (map (λ k. k.1) (cond b (x ∷ filter (λ k. k.0 == m.0) order)
          (filter (λ k. k.0 == m.0) order))) ≡ m.1 ∷ rest)
      skip true here found =
          let stays : leaves ds (m.0, x.1) ≡ false =
          ap (λ (k : ℕ). leaves ds (k, x.1)) (sym (same_number x.0 m.0 here)) ∙ e in
          (found.0, rw stays found.1)
      skip false here found = found

-- one message more in the order
pub numbers-push : (to : ℕ) (order : List (ℕ × ℕ)) (m : ℕ × ℕ)
    → numbers_to to (order ++ m ∷ []) ≡ numbers_to to order ++ cond (m.0 == to) (m.1 ∷ []) []
numbers-push to order m =
    ap (λ (ms : List (ℕ × ℕ)). map (λ k. k.1) ms) (filter-append (λ (k : ℕ × ℕ). k.0 == to) order (m ∷ []))
    ∙ map-append (λ (k : ℕ × ℕ). k.1) (filter (λ k. k.0 == to) order) (filter (λ k. k.0 == to) (m ∷ []))
    ∙ ap (λ (ns : List ℕ). numbers_to to order ++ ns) (by_test (m.0 == to))
  where
    by_test : (b : Bool) → map (λ (k : ℕ × ℕ). k.1) (cond b (m ∷ []) []) ≡ cond b (m.1 ∷ []) []
    by_test true = refl
    by_test false = refl

pub has-append : (ms ns : List ℕ) (k : ℕ) → has (ms ++ ns) k ≡ (has ms k || has ns k)
has-append ms ns k = list_any-append (λ (m : ℕ). m == k) ms ns
