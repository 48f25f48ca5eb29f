-- Elements of lists and of rows, searches, and what tests say.
use Rattle.std.specs.Prelude.{IsSomeAnd}
use Rattle.std.proofs.Common.{◌≡◌, ◌≢◌, ℕ, ◌<◌, ◌≤◌, zero, suc, Bool, true, false, ◌||◌, cond}
use Rattle.std.proofs.Common.{Option, Some, None, List, [], ◌∷◌, ◌++◌, length, get_or, refl, sym, ◌∙◌, ap, subst}
use Rattle.std.proofs.Common.{⊎_elim}
use Rattle.std.proofs.Common.{arith, length-append, append-nil}
use Rattle.std.specs.List.{find, list_any, slice_get, sum_by}
use Rattle.std.specs.Option.{option_or, option_to_list}
use Rattle.std.proofs.Math.ListN.{set}
use Rattle.std.proofs.lemmas.Bool.{cases_lt}
use Rattle.std.proofs.lemmas.List.{get_or-set_same, get_or-set_other, get_or_past}
use Rattle.std.proofs.lemmas.List.Folds.{find-append}
use Rattle.std.proofs.lemmas.List.Sums.{sum_by-cons}
use Rattle.std.proofs.lemmas.Option.{slice_get_past}
use Rattle.nm_history.proofs.Basic.{or_true}
use Rattle.nm_types.proofs.ListLemmas.{get_front}
use Rattle.nm_match.proofs.NameLemmas.{or_none}

pub slice_get-last : {X : Type 0} (xs : List X) (x : X) (k : ℕ) → k ≡ length xs → slice_get (xs ++ x ∷ []) k ≡ Some x
slice_get-last [] x zero same = refl
slice_get-last [] x (suc k) same = absurd (omega arith)
slice_get-last (y ∷ xs) x zero same = absurd (omega arith)
slice_get-last (y ∷ xs) x (suc k) same = slice_get-last xs x k (omega arith)

-- at each other place a longer list is as the shorter one
pub slice_get-push_other : {X : Type 0} (xs : List X) (x : X) (k : ℕ) → k ≢ length xs →
    slice_get (xs ++ x ∷ []) k ≡ slice_get xs k
slice_get-push_other xs x k other = ⊎_elim
    (λ less. get_front xs (x ∷ []) k less)
    (λ more. slice_get_past (xs ++ x ∷ []) k
    (let beyond : length xs < k = ⊎_elim (λ h. h) (λ h. absurd (other (omega arith))) (cases_lt (length xs) k) in
    omega (arith, length-append xs (x ∷ [])))
    ∙ sym (slice_get_past xs k more))
    (cases_lt k (length xs))

-- the row that was set, and the others
pub row-same : {X : Type 0} (rows : List (List X)) (i : ℕ) (row : List X) (k : ℕ) → k ≡ i → i < length rows →
    get_or (set rows i row) k [] ≡ row
row-same rows i row k same inside = ap (λ (j : ℕ). get_or (set rows i row) j []) same
    ∙ get_or-set_same rows i row [] inside

pub row-other : {X : Type 0} (rows : List (List X)) (i : ℕ) (row : List X) (k : ℕ) → k ≢ i →
    get_or (set rows i row) k [] ≡ get_or rows k []
row-other rows i row k differ = get_or-set_other rows i k row [] differ

-- a row with an element is inside
pub row_inside : {X : Type 0} (rows : List (List X)) (i n : ℕ) (x : X) → slice_get (get_or rows i []) n ≡ Some x →
    i < length rows
row_inside rows i n x is = ⊎_elim (λ inside. inside)
    (λ past. let none : get_or rows i [] ≡ [] = get_or_past rows i [] past in
    let h : slice_get {X = _} [] n ≡ Some x = subst (λ ys. slice_get ys n ≡ Some x) none is in
    absurd (let h' : ⊥ = cc in h'))
    (cases_lt i (length rows))

pub some_from : {X : Type 0} (P : X → Type 0) (o : Option X) (x : X) → o ≡ Some x → P x → IsSomeAnd o P
some_from P o x same holds = rw same holds

pub find-none_more : {X : Type 0} (p : X → Bool) (xs : List X) (o : Option X) → ((x : X) → o ≡ Some x → p x ≡ false)
    → find p (xs ++ option_to_list o) ≡ find p xs
find-none_more p xs None other = ap (λ ys. find p ys) (append-nil xs)
find-none_more {X} p xs (Some x) other =
    find-append p xs (x ∷ []) ∙ ap (λ (b : Bool). option_or (find p xs) (cond b (Some x) None)) (other x refl)
    ∙ or_none (find p xs)

pub find-first_more : {X : Type 0} (p : X → Bool) (xs : List X) (o : Option X) → find p xs ≡ None
    → ((x : X) → o ≡ Some x → p x ≡ true) → find p (xs ++ option_to_list o) ≡ o
find-first_more p xs None none own = ap (λ ys. find p ys) (append-nil xs) ∙ none
find-first_more {X} p xs (Some x) none own =
    find-append p xs (x ∷ []) ∙ ap (λ (q : Option X). option_or q (cond (p x) (Some x) None)) none
    ∙ ap (λ (b : Bool). option_or {T = X} None (cond b (Some x) None)) (own x refl)

pub find-still : {X : Type 0} (p : X → Bool) (xs ys : List X) (x : X) → find p xs ≡ Some x → find p (xs ++ ys) ≡ Some x
find-still {X} p xs ys x is = find-append p xs ys ∙ ap (λ (q : Option X). option_or q (find p ys)) is

pub any_from_found : {X : Type 0} (p : X → Bool) (xs : List X) (x : X) → find p xs ≡ Some x → list_any p xs ≡ true
any_from_found p [] x is = absurd (let h : ⊥ = cc in h)
any_from_found {X} p (y ∷ xs) x is = by (p y) refl (any_from_found p xs x)
  where
    by : (b : Bool) → p y ≡ b → (find p xs ≡ Some x → list_any p xs ≡ true) → (p y || list_any p xs) ≡ true
    by true e later = ap (λ (b : Bool). b || list_any p xs) e
    by false e later = ap (λ (b : Bool). b || list_any p xs) e
        ∙ later (sym (ap (λ (b : Bool). cond b (Some y) (find p xs)) e) ∙ is)

-- what is found is no more than the sum
pub found-le-sum : {X : Type 0} (f : X → ℕ) (p : X → Bool) (xs : List X) (x : X) → find p xs ≡ Some x →
    f x ≤ sum_by f xs
found-le-sum f p [] x is = absurd (let h : ⊥ = cc in h)
found-le-sum {X} f p (y ∷ xs) x is = by (p y) refl (found-le-sum f p xs x)
  where
    by : (b : Bool) → p y ≡ b → (find p xs ≡ Some x → f x ≤ sum_by f xs) → f x ≤ sum_by f (y ∷ xs)
    by true e later =
        let same : Some y ≡ Some x = sym (ap (λ (b : Bool). cond b (Some y) (find p xs)) e) ∙ is in
        let same' : y ≡ x = cc in
        let equal : f y ≡ f x = ap f same' in omega (arith, sum_by-cons f y xs)
    by false e later =
        let below : f x ≤ sum_by f xs = later (sym (ap (λ (b : Bool). cond b (Some y) (find p xs)) e) ∙ is) in
        omega (arith, sum_by-cons f y xs)

-- what passes another test too
pub any_of_found : {X : Type 0} (p q : X → Bool) (xs : List X) (x : X) → find p xs ≡ Some x → q x ≡ true →
    list_any q xs ≡ true
any_of_found p q [] x is passes = absurd (let h : ⊥ = cc in h)
any_of_found {X} p q (y ∷ xs) x is passes = by (p y) refl (any_of_found p q xs x)
  where
    by : (b : Bool) → p y ≡ b → (find p xs ≡ Some x → q x ≡ true → list_any q xs ≡ true) → (q y || list_any q xs) ≡ true
    by true e later =
        let same : Some y ≡ Some x = sym (ap (λ (b : Bool). cond b (Some y) (find p xs)) e) ∙ is in
        let same' : y ≡ x = cc in
        ap (λ (b : Bool). b || list_any q xs) (ap q same' ∙ passes)
    by false e later =
        ap (λ (b : Bool). q y || b) (later (sym (ap (λ (b : Bool). cond b (Some y) (find p xs)) e) ∙ is) passes)
        ∙ or_true (q y)
