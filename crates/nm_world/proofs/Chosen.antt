-- A list with one value for each element of another one, by what is known of the element at its place.
use Rattle.std.proofs.Common.{◌≡◌, ℕ, zero, suc, Option, Some, None, List, [], ◌∷◌, length, map, refl, ap, ap₂}
use Rattle.std.specs.Prelude.{IfSome}
use Rattle.std.specs.List.{slice_get}

pub chosen : {A B : Type 0} (P : ℕ → A → Type 0) → ((i : ℕ) (a : A) → P i a → B) → (as' : List A) →
    ((i : ℕ) → IfSome (slice_get as' i) (P i)) → List B
chosen P f [] h = []
chosen P f (a ∷ as') h = f zero a (h zero) ∷ chosen (λ i. P (suc i)) (λ i. f (suc i)) as' (λ i. h (suc i))

pub chosen_length : {A B : Type 0} (P : ℕ → A → Type 0) (f : (i : ℕ) (a : A) → P i a → B) (as' : List A)
    (h : (i : ℕ) → IfSome (slice_get as' i) (P i)) → length (chosen P f as' h) ≡ length as'
unfolding chosen
chosen_length P f [] h = refl
chosen_length P f (a ∷ as') h =
    ap suc (chosen_length (λ i. P (suc i)) (λ i. f (suc i)) as' (λ i. h (suc i)))

-- what holds of each value that may be chosen, holds of those that were
pub chosen_each : {A B : Type 0} (P : ℕ → A → Type 0) (f : (i : ℕ) (a : A) → P i a → B) (as' : List A)
    (h : (i : ℕ) → IfSome (slice_get as' i) (P i)) (Q : ℕ → B → Type 0) →
    ((i : ℕ) (a : A) (p : P i a) → Q i (f i a p)) →
    (i : ℕ) → IfSome (slice_get (chosen P f as' h) i) (Q i)
unfolding chosen
chosen_each P f [] h Q all i = tt
chosen_each P f (a ∷ as') h Q all zero = all zero a (h zero)
chosen_each P f (a ∷ as') h Q all (suc i) =
    chosen_each (λ j. P (suc j)) (λ j. f (suc j)) as' (λ j. h (suc j)) (λ j. Q (suc j))
    (λ j. all (suc j)) i

-- each element with its place
pub placed : {A : Type 0} (P : ℕ → A → Type 0) (as' : List A) →
    ((i : ℕ) → IfSome (slice_get as' i) (P i)) →
    (i : ℕ) → IfSome (slice_get as' i) (λ a. (slice_get as' i ≡ Some a) × P i a)
placed {A = A} P as' h i = by (slice_get as' i) (h i) where
  by : (o : Option A) → IfSome o (P i) → IfSome o (λ a. (o ≡ Some a) × P i a)
  by None p = tt
  by (Some a) p = (refl, p)

-- what holds of the values of a list, at their places
pub each_map : {A B : Type 0} (g : A → B) (as' : List A) (Q : ℕ → B → Type 0) →
    ((i : ℕ) → IfSome (slice_get as' i) (λ a. Q i (g a))) → (i : ℕ) → IfSome (slice_get (map g as') i) (Q i)
each_map g [] Q h i = tt
each_map g (a ∷ as') Q h zero = h zero
each_map g (a ∷ as') Q h (suc i) = each_map g as' (λ j. Q (suc j)) (λ j. h (suc j)) i

pub same_there : {A : Type 0} {o : Option A} (a b : A) → o ≡ Some a → o ≡ Some b → a ≡ b
same_there a b one other = cc

pub for_each : {A B : Type 0} (o : Option B) (S : A → Type 0) (R : B → A → Type 0) →
    IfSome o (λ b. (a : A) → S a → R b a) → (a : A) → S a → IfSome o (λ b. R b a)
for_each None S R h a s = tt
for_each (Some b) S R h a s = h a s

-- a list that is made of the values is that of the elements
pub chosen_map : {A B C : Type 0} (P : ℕ → A → Type 0) (f : (i : ℕ) (a : A) → P i a → B) (as' : List A)
    (h : (i : ℕ) → IfSome (slice_get as' i) (P i)) (g : B → C) (k : A → C) →
    ((i : ℕ) (a : A) (p : P i a) → g (f i a p) ≡ k a) → map g (chosen P f as' h) ≡ map k as'
unfolding chosen
chosen_map P f [] h g k all = refl
chosen_map P f (a ∷ as') h g k all =
    ap₂ (λ x xs. x ∷ xs) (all zero a (h zero))
    (chosen_map (λ i. P (suc i)) (λ i. f (suc i)) as' (λ i. h (suc i)) g k (λ i. all (suc i)))

pub map_twice : {A B C : Type 0} (g : B → C) (k : A → B) (as' : List A) →
    map g (map k as') ≡ map (λ a. g (k a)) as'
map_twice g k [] = refl
map_twice g k (a ∷ as') = ap (λ xs. g (k a) ∷ xs) (map_twice g k as')
