-- Texts that are written item by item.
use Rattle.std.proofs.Common.{◌≡◌, ℕ, ◌+◌, List, ◌∷◌, ◌++◌, drop, Some, slice_get, ap, sym, ◌∙◌}
use Rattle.std.proofs.Common.{append_assoc}
use Rattle.std.proofs.lemmas.List.{drop_more}
use Rattle.std.proofs.lemmas.Option.{get_or_from_slice_get, slice_get_within}

-- The text of the next item is written, and the texts of the rest are still to write. `here` gives
-- the texts from this item on, and `there` those from the one behind it.
pub next_written :
    {X : Type 0} (here there : List X → List ℕ) (text : List ℕ) (xs : List X) (k : ℕ) (x : X)
    (old new all : List ℕ)
    → slice_get xs k ≡ Some x
    → here (x ∷ drop (k + 1) xs) ≡ text ++ there (drop (k + 1) xs)
    → new ≡ old ++ text
    → old ++ here (drop k xs) ≡ all
    → new ++ there (drop (k + 1) xs) ≡ all
next_written here there text xs k x old new all found step written so_far =
    let rest = drop (k + 1) xs in
    let same : drop k xs ≡ x ∷ rest =
    drop_more xs k x (slice_get_within xs k x found)
    ∙ ap (λ y. y ∷ rest) (get_or_from_slice_get xs k x x found) in
    ap (λ t. t ++ there rest) written ∙ append_assoc old text (there rest)
    ∙ ap (λ t. old ++ t) (sym step ∙ ap here (sym same)) ∙ so_far
