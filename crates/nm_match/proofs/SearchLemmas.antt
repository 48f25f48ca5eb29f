-- What a search takes out of a list, seen through another test.
use Rattle.std.proofs.Common.{◌≡◌, Bool, true, false, cond, Some, None, List, []}
use Rattle.std.proofs.Common.{◌∷◌, refl, sym, ◌∙◌, ap, arith}
use Rattle.std.specs.List.{All, filter, find}
use Rattle.std.proofs.lemmas.List.Elements.{All-cons, All-head, All-tail}
use Rattle.nm_match.specs.Queues.{without_first}
use Rattle.nm_match.proofs.ListLemmas.{none_at}

-- where a search finds nothing, a filter of the same test keeps nothing
pub nothing_kept : {X : Type 0} (test q : X → Bool) → ((x : X) → test x ≡ q x) → (xs : List X) →
    find test xs ≡ None → filter q xs ≡ []
nothing_kept test q agree [] none = refl
nothing_kept test q agree (y ∷ ys) none =
    let both = none_at y (find test ys) (test y) none in
    rw (sym (agree y) ∙ both.0) (nothing_kept test q agree ys both.1)

first_at : {X : Type 0} (test q : X → Bool) (y : X) (ys : List X) (x : X) (b : Bool) → q y ≡ b →
    (find test ys ≡ Some x → filter q ys ≡ x ∷ filter q (without_first test ys)) →
    cond b (Some y) (find test ys) ≡ Some x →
    cond b (y ∷ filter q ys) (filter q ys) ≡ x ∷ filter q (cond b ys (y ∷ without_first test ys))
first_at {X} test q y ys x true same later found =
    let here : y ≡ x = cc in ap (λ (z : X). z ∷ filter q ys) here
first_at test q y ys x false same later found = later found ∙ (rw same refl)

-- what is found is the first that a filter of the same test keeps
pub first_kept : {X : Type 0} (test q : X → Bool) → ((x : X) → test x ≡ q x) → (xs : List X) (x : X) →
    find test xs ≡ Some x → filter q xs ≡ x ∷ filter q (without_first test xs)
first_kept test q agree [] x found = absurd (grind arith)
first_kept test q agree (y ∷ ys) x found =
    rw (agree y) (first_at test q y ys x (q y) refl (first_kept test q agree ys x) (rw (agree y) at found))

others_at : {X : Type 0} (test q : X → Bool) (y : X) (ys : List X) (b : Bool) → (b ≡ true → q y ≡ false) →
    filter q (without_first test ys) ≡ filter q ys →
    filter q (cond b ys (y ∷ without_first test ys)) ≡ cond (q y) (y ∷ filter q ys) (filter q ys)
others_at test q y ys true apart later = rw (apart refl) refl
others_at {X} test q y ys false apart later = ap (λ (zs : List X). cond (q y) (y ∷ zs) zs) later

-- a filter that keeps nothing of what the search passes keeps the same
pub others_kept : {X : Type 0} (test q : X → Bool) (xs : List X) → All (λ x. test x ≡ true → q x ≡ false) xs →
    filter q (without_first test xs) ≡ filter q xs
others_kept test q [] apart = refl
others_kept test q (y ∷ ys) apart =
    others_at test q y ys (test y) (All-head (λ x. test x ≡ true → q x ≡ false) y ys apart)
    (others_kept test q ys (All-tail (λ x. test x ≡ true → q x ≡ false) y ys apart))

all_at : {X : Type 0} (P : X → Type 0) (y : X) (ys rest : List X) (b : Bool) → P y → All P ys → All P rest →
    All P (cond b ys (y ∷ rest))
all_at P y ys rest true first others left = others
all_at P y ys rest false first others left = All-cons P y rest first left

-- what holds of all holds of those that are left
pub others_all : {X : Type 0} (P : X → Type 0) (test : X → Bool) (xs : List X) → All P xs →
    All P (without_first test xs)
others_all P test [] each = each
others_all P test (y ∷ ys) each =
    all_at P y ys (without_first test ys) (test y) (All-head P y ys each) (All-tail P y ys each)
    (others_all P test ys (All-tail P y ys each))
