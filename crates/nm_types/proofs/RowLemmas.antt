-- A list of rows, seen by what each row holds, of which one changes.
use Rattle.std.proofs.Common.{◌≡◌, ℕ, ◌+◌, ◌<◌, List, [], ◌∷◌, ◌++◌, length, map, get_or, replicate, sym, ◌∙◌, ap}
use Rattle.std.proofs.Common.{arith}
use Rattle.std.proofs.Math.ListN.{set}
use Rattle.std.proofs.Math.Seq.{map-set_same}
use Rattle.std.proofs.lemmas.List.{get_or-map, get_or-set_same, length-map, map-append, map-set, replicate_more}

pub row_inside : {X Y : Type 0} (f : X → Y) (rows : List X) (i : ℕ) → i < length (map f rows) → i < length rows
row_inside f rows i below = omega (arith, length-map rows f)

-- what the row at i holds
pub row_at : {X Y : Type 0} (f : X → Y) (rows : List X) (i : ℕ) (row : X) (d : Y) → i < length rows →
    row ≡ get_or rows i row → get_or (map f rows) i d ≡ f row
row_at f rows i row d inside read = get_or-map f rows i row d inside ∙ ap f (sym read)

-- one element more in a row
pub row-push : {X Z : Type 0} (f : X → List Z) (rows : List X) (i : ℕ) (row new : X) (z : Z) → i < length rows →
    row ≡ get_or rows i row → f new ≡ f row ++ z ∷ [] →
    map f (set rows i new) ≡ set (map f rows) i (get_or (map f rows) i [] ++ z ∷ [])
row-push f rows i row new z inside read pushed =
    map-set f rows i new ∙ ap (λ zs. set (map f rows) i zs)
    (pushed ∙ ap (λ zs. zs ++ z ∷ []) (sym (row_at f rows i row [] inside read)))

-- a row that holds the same
pub row-same : {X Y : Type 0} (f : X → Y) (rows : List X) (i : ℕ) (row new : X) → row ≡ get_or rows i row →
    f new ≡ f row → map f (set rows i new) ≡ map f rows
row-same f rows i row new read same = map-set_same f rows i new row (same ∙ ap f read)

-- what the new row has
pub row-new : {X : Type 0} (f : X → ℕ) (rows : List X) (i : ℕ) (new : X) → i < length rows → 0 < f new →
    0 < get_or (map f (set rows i new)) i 0
row-new f rows i new inside more =
    let is : get_or (map f (set rows i new)) i 0 ≡ f new =
    ap (λ ys. get_or ys i 0) (map-set f rows i new)
    ∙ get_or-set_same (map f rows) i (f new) 0 (omega (arith, length-map rows f)) in
    omega arith

-- one empty row more
pub rows-push : {X Y : Type 0} (f : X → Y) (rows : List X) (n : ℕ) (new : X) (y : Y) → map f rows ≡ replicate n y →
    f new ≡ y → map f (rows ++ new ∷ []) ≡ replicate (n + 1) y
rows-push f rows n new y so_far is = map-append f rows (new ∷ []) ∙ ap (λ ys. ys ++ f new ∷ []) so_far
    ∙ ap (λ z. replicate n y ++ z ∷ []) is ∙ replicate_more n y
