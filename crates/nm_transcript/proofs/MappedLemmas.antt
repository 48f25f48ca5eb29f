-- A list that is gone through, and another that is made of it by a function.
use Rattle.std.proofs.Common.{◌≡◌, List, [], ◌∷◌, ◌++◌, map, sym, ◌∙◌, ap, append_assoc, append-nil}

module _ {X Y : Type 0} (g : X → Y) where
  -- one more is made
  pub one_mapped : (ys more : List Y) (rest later : List X) (x : X) (y : Y) (whole : List Y) → rest ≡ x ∷ later →
      more ≡ ys ++ y ∷ [] → y ≡ g x → ys ++ map g rest ≡ whole → more ++ map g later ≡ whole
  one_mapped ys more rest later x y whole split grown made so_far =
      ap (λ (zs : List Y). zs ++ map g later) grown
      ∙ append_assoc ys (y ∷ []) (map g later)
      ∙ ap (λ (z : Y). ys ++ z ∷ map g later) made
      ∙ ap (λ (zs : List X). ys ++ map g zs) (sym split)
      ∙ so_far

  -- all are made
  pub all_mapped : (ys : List Y) (rest : List X) (whole : List Y) → rest ≡ [] → ys ++ map g rest ≡ whole → ys ≡ whole
  all_mapped ys rest whole none so_far =
      sym (append-nil ys) ∙ ap (λ (zs : List X). ys ++ map g zs) (sym none) ∙ so_far
