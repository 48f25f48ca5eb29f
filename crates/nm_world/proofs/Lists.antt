-- Two lists of which R holds place by place.
use Rattle.std.proofs.Common.{List, [], ◌∷◌, ◌++◌}
use Rattle.std.specs.List.{AllZip}

pub all_zip_append : {A : Type 0} (R : A → A → Type 0) (xs xs' ys ys' : List A) → AllZip R xs ys →
    AllZip R xs' ys' → AllZip R (xs ++ xs') (ys ++ ys')
all_zip_append R [] xs' [] ys' h k = k
all_zip_append R [] xs' (y ∷ ys) ys' h k = absurd h
all_zip_append R (x ∷ xs) xs' [] ys' h k = absurd h
all_zip_append R (x ∷ xs) xs' (y ∷ ys) ys' h k = (h.0, all_zip_append R xs xs' ys ys' h.1 k)

-- from one to the next
pub all_zip_on : {A : Type 0} (R S T : A → A → Type 0) → ((x y z : A) → R x y → S y z → T x z) →
    (xs ys zs : List A) → AllZip R xs ys → AllZip S ys zs → AllZip T xs zs
all_zip_on R S T on [] [] [] h k = tt
all_zip_on R S T on [] [] (z ∷ zs) h k = absurd k
all_zip_on R S T on [] (y ∷ ys) zs h k = absurd h
all_zip_on R S T on (x ∷ xs) [] zs h k = absurd h
all_zip_on R S T on (x ∷ xs) (y ∷ ys) [] h k = absurd k
all_zip_on R S T on (x ∷ xs) (y ∷ ys) (z ∷ zs) h k = (on x y z h.0 k.0, all_zip_on R S T on xs ys zs h.1 k.1)

-- both of two
pub all_zip_both : {A : Type 0} (R S : A → A → Type 0) (xs ys : List A) → AllZip R xs ys → AllZip S xs ys →
    AllZip (λ x y. R x y × S x y) xs ys
all_zip_both R S [] [] h k = tt
all_zip_both R S [] (y ∷ ys) h k = absurd h
all_zip_both R S (x ∷ xs) [] h k = absurd h
all_zip_both R S (x ∷ xs) (y ∷ ys) h k = ((h.0, k.0), all_zip_both R S xs ys h.1 k.1)
