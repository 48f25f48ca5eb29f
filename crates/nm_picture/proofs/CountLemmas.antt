-- Texts that are written number by number.
use Rattle.std.proofs.Common.{◌≡◌, ℕ, ◌+◌, ◌-◌, ◌<◌, suc, List, ◌++◌, flat_map, ap, sym, ◌∙◌, arith, append_assoc}
use Rattle.std.specs.List.{range_with_len}

-- the text of the next number is written, and the texts of the rest are still to write
pub next_counted : (text : ℕ → List ℕ) (k n : ℕ) (old new all : List ℕ) → k < n → new ≡ old ++ text (k + 1) →
    old ++ flat_map text (range_with_len (k + 1) (n - k)) ≡ all →
    new ++ flat_map text (range_with_len (k + 1 + 1) (n - (k + 1))) ≡ all
next_counted text k n old new all below written so_far =
    let rest = flat_map text (range_with_len (k + 1 + 1) (n - (k + 1))) in
    let count : n - k ≡ suc (n - (k + 1)) = omega (arith, below) in
    ap (λ t. t ++ rest) written ∙ append_assoc old (text (k + 1)) rest
    ∙ ap (λ m. old ++ flat_map text (range_with_len (k + 1) m)) (sym count) ∙ so_far
