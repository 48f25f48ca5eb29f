-- What a search finds, and what is left without it.
use Rattle.std.proofs.Common.{◌≡◌, Bool, true, false, not, ◌&&◌, ◌||◌, cond, Option, Some, None}
use Rattle.std.proofs.Common.{List, [], ◌∷◌, refl, sym, ◌∙◌, ap, subst, arith, get_or, suc}
use Rattle.std.proofs.Math.Bool.{and-false, and-or_distrib_left}
use Rattle.std.specs.Prelude.{AllPairs}
use Rattle.std.specs.List.{All, filter, find, list_any}
use Rattle.std.proofs.lemmas.List.Elements.{All-head, All-tail, All-weaker}
use Rattle.nm_history.proofs.OnceLemmas.{find_among}
use Rattle.nm_match.specs.Queues.{without_first}

find-filter_at : {X : Type 0} (p : X → Bool) (x : X) (ys : List X) (b : Bool) →
    find p (cond b (x ∷ ys) ys) ≡ cond (p x && b) (Some x) (find p ys)
find-filter_at p x ys true = grind arith
find-filter_at p x ys false = grind arith

-- a search among the elements that pass a test
pub find-filter : {X : Type 0} (p q : X → Bool) (xs : List X) →
    find p (filter q xs) ≡ find (λ x. p x && q x) xs
find-filter p q [] = refl
find-filter p q (x ∷ xs) = find-filter_at p x (filter q xs) (q x)
    ∙ ap (λ r. cond (p x && q x) (Some x) r) (find-filter p q xs)

filter-filter_at : {X : Type 0} (p : X → Bool) (x : X) (ys : List X) (b : Bool) →
    filter p (cond b (x ∷ ys) ys) ≡ cond (b && p x) (x ∷ filter p ys) (filter p ys)
filter-filter_at p x ys true = refl
filter-filter_at p x ys false = refl

-- what passes both of two tests
pub filter-filter : {X : Type 0} (p q : X → Bool) (xs : List X) →
    filter p (filter q xs) ≡ filter (λ x. q x && p x) xs
filter-filter p q [] = refl
filter-filter p q (x ∷ xs) = filter-filter_at p x (filter q xs) (q x)
    ∙ ap (λ ys. cond (q x && p x) (x ∷ ys) ys) (filter-filter p q xs)

-- where each element passes, a filter keeps all
pub filter_all : {X : Type 0} (p : X → Bool) (xs : List X) → All (λ x. p x ≡ true) xs → filter p xs ≡ xs
filter_all p [] each = refl
filter_all p (x ∷ xs) each = rw (All-head (λ x. p x ≡ true) x xs each)
    (ap (λ ys. x ∷ ys) (filter_all p xs (All-tail (λ x. p x ≡ true) x xs each)))

pub none_at : {X : Type 0} (x : X) (o : Option X) (b : Bool) → cond b (Some x) o ≡ None → (b ≡ false) × (o ≡ None)
none_at x o true h = absurd (grind arith)
none_at x o false h = (refl, h)

-- where nothing passes, nothing is taken
pub without_first-none : {X : Type 0} (p : X → Bool) (xs : List X) → find p xs ≡ None →
    without_first p xs ≡ xs
without_first-none p [] none = refl
without_first-none p (x ∷ xs) none =
    let both = none_at x (find p xs) (p x) none in
    rw both.0 (ap (λ ys. x ∷ ys) (without_first-none p xs both.1))

-- no two elements are the same
abbrev pub Apart : {X : Type 0} → (X → X → Bool) → List X → Type 0
Apart same xs = AllPairs (λ x y. (same x y ≡ false) × (same y x ≡ false)) xs

apart_head : {X : Type 0} (same : X → X → Bool) (x : X) (xs : List X) → Apart same (x ∷ xs) →
    All (λ y. (same x y ≡ false) × (same y x ≡ false)) xs
apart_head same x xs apart = λ k d inside. apart 0 (suc k) d (omega arith) (omega arith)

apart_tail : {X : Type 0} (same : X → X → Bool) (x : X) (xs : List X) → Apart same (x ∷ xs) → Apart same xs
apart_tail same x xs apart = λ i j d below inside. apart (suc i) (suc j) d (omega arith) (omega arith)

taken_at : {X : Type 0} (test : X → Bool) (same : X → X → Bool) (x : X) (xs : List X) (y : X) (b : Bool) →
    same x x ≡ true → All (λ z. (same x z ≡ false) × (same z x ≡ false)) xs →
    (find test xs ≡ Some y → without_first test xs ≡ filter (λ z. not (same y z)) xs) →
    cond b (Some x) (find test xs) ≡ Some y →
    cond b xs (x ∷ without_first test xs) ≡ filter (λ z. not (same y z)) (x ∷ xs)
taken_at {X} test same x xs y true itself apart later found =
    let here : x ≡ y = cc in
    subst (λ (y : X). xs ≡ filter (λ z. not (same y z)) (x ∷ xs)) here
    (rw itself (sym (filter_all (λ z. not (same x z)) xs
    (All-weaker (λ z. (same x z ≡ false) × (same z x ≡ false)) (λ z. not (same x z) ≡ true)
    (λ z differ. rw differ.0 refl) xs apart))))
taken_at {X} test same x xs y false itself apart later found =
    let other = find_among (λ z. (same x z ≡ false) × (same z x ≡ false)) test xs y apart found in
    rw other.1 (ap (λ (zs : List X). x ∷ zs) (later found))

-- where no two elements are the same, a list without what was found is a list of those that differ from it
pub without_first-filter : {X : Type 0} (test : X → Bool) (same : X → X → Bool) →
    ((x : X) → same x x ≡ true) → (xs : List X) (y : X) → Apart same xs → find test xs ≡ Some y →
    without_first test xs ≡ filter (λ z. not (same y z)) xs
without_first-filter test same itself [] y apart found = absurd (grind arith)
without_first-filter test same itself (x ∷ xs) y apart found =
    taken_at test same x xs y (test x) (itself x) (apart_head same x xs apart)
    (without_first-filter test same itself xs y (apart_tail same x xs apart)) found

-- where no element is named, all stay
pub filter_none : {X : Type 0} (named : X → Bool) (xs : List X) → All (λ x. named x ≡ false) xs →
    filter (λ x. not (named x)) xs ≡ xs
filter_none named xs none = filter_all (λ x. not (named x)) xs
    (All-weaker (λ x. named x ≡ false) (λ x. not (named x) ≡ true) (λ x other. rw other refl) xs none)

any_at : {X : Type 0} (p : X → Bool) (x : X) (xs : List X) (b : Bool) →
    list_any p (cond b (x ∷ xs) xs) ≡ ((b && p x) || list_any p xs)
any_at p x xs true = refl
any_at p x xs false = refl

-- whether one of those that pass is named
pub list_any-filter : {X : Type 0} (p q : X → Bool) (xs : List X) →
    list_any p (filter q xs) ≡ list_any (λ x. q x && p x) xs
list_any-filter p q [] = refl
list_any-filter p q (x ∷ xs) = any_at p x (filter q xs) (q x)
    ∙ ap (λ b. (q x && p x) || b) (list_any-filter p q xs)

-- two tests that agree
pub list_any_agree : {X : Type 0} (p q : X → Bool) → ((x : X) → p x ≡ q x) → (xs : List X) →
    list_any p xs ≡ list_any q xs
list_any_agree p q agree [] = refl
list_any_agree p q agree (x ∷ xs) = rw (agree x) (ap (λ b. q x || b) (list_any_agree p q agree xs))

-- a condition beside the test
pub list_any-and : {X : Type 0} (b : Bool) (p : X → Bool) (xs : List X) →
    list_any (λ x. b && p x) xs ≡ (b && list_any p xs)
list_any-and b p [] = sym (and-false b)
list_any-and b p (x ∷ xs) = rw (list_any-and b p xs) (sym (and-or_distrib_left b (p x) (list_any p xs)))

-- what any two elements have
pub AllPairs-weaker : {X : Type 0} (R S : X → X → Type 0) → ((x y : X) → R x y → S x y) → (xs : List X) →
    AllPairs R xs → AllPairs S xs
AllPairs-weaker R S weaker xs each = λ i j d below inside.
    weaker (get_or xs i d) (get_or xs j d) (each i j d below inside)

-- where none passes, nothing is found
pub none_passes : {X : Type 0} (p : X → Bool) (xs : List X) → All (λ x. p x ≡ false) xs → find p xs ≡ None
none_passes p [] none = refl
none_passes p (x ∷ xs) none = rw (All-head (λ x. p x ≡ false) x xs none)
    (none_passes p xs (All-tail (λ x. p x ≡ false) x xs none))
