-- Lists that grow at their end.
use Rattle.std.proofs.Common.{◌≡◌, ◌⊎◌, ℕ, ◌+◌, ◌<◌, List, [], ◌∷◌, ◌++◌, arith, get_or, length, subst, sym, take}
use Rattle.std.specs.Prelude.{Contains}
use Rattle.std.proofs.lemmas.List.{take_more}
use Rattle.std.proofs.lemmas.List.Elements.{Contains-append_left, Contains-push, Contains-push_cases}
use Rattle.nm_why.specs.Lists.{Keeps}

-- what is pushed is there, and so is what was there
pub keeps_push : {X : Type 0} (xs ys : List X) (y : X) → ys ≡ xs ++ y ∷ [] → Keeps xs ys
keeps_push {X} xs ys y is x at =
    subst (λ (zs : List X). Contains zs x) (sym is) (Contains-append_left xs (y ∷ []) x at)

-- the pushed one
pub has_push : {X : Type 0} (xs ys : List X) (y : X) → ys ≡ xs ++ y ∷ [] → Contains ys y
has_push {X} xs ys y is = subst (λ (zs : List X). Contains zs y) (sym is) (Contains-push xs y)

-- .. and nothing else is there
pub push_cases : {X : Type 0} (xs ys : List X) (y x : X) → ys ≡ xs ++ y ∷ [] → Contains ys x → Contains xs x ⊎ (y ≡ x)
push_cases {X} xs ys y x is at = Contains-push_cases xs y x (subst (λ (zs : List X). Contains zs x) is at)

-- the first elements of a list, with one more
pub taken_cases : {X : Type 0} (xs : List X) (k : ℕ) (y x : X) → k < length xs → Contains (take (k + 1) xs) x →
    Contains (take k xs) x ⊎ (get_or xs k y ≡ x)
taken_cases xs k y x low at = push_cases (take k xs) (take (k + 1) xs) (get_or xs k y) x (take_more xs k y low) at

-- an empty list has nothing
pub empty_has : {X : Type 0} (xs : List X) (x : X) → xs ≡ [] → Contains xs x → ⊥
empty_has {X} xs x is at = let low = (subst (λ (zs : List X). Contains zs x) is at).1 in omega (arith, low)
