-- What holds of each item of a list with its place, one item after another.
use Rattle.std.proofs.Common.{◌≡◌, ℕ, ◌<◌, ◌≤◌, ◌⊎◌, inl, inr, List, [], ◌∷◌, ◌++◌, length, get_or, sym, ◌∙◌, ap}
use Rattle.std.proofs.Common.{subst, arith, length-append}
use Rattle.std.proofs.lemmas.Bool.{cases_lt}
use Rattle.std.proofs.lemmas.List.{get_or_append_left}
use Rattle.std.proofs.Math.Seq.{get_or-append_seam}

module _ {X : Type 0} (R : ℕ → X → Type 0) where
  -- R holds of each item and its place
  abbrev pub EachItem : List X → Type 0
  EachItem xs = (i : ℕ) (x : X) → i < length xs → x ≡ get_or xs i x → R i x

  pub no_item : EachItem []
  no_item i x inside is = absurd (omega arith)

  pub one_more : (xs : List X) (y : X) → EachItem xs → R (length xs) y → EachItem (xs ++ y ∷ [])
  one_more xs y before here i x inside is = by_place (cases_lt i (length xs))
    where
      at_end : i ≡ length xs → R i x
      at_end same =
          let own : x ≡ y = is ∙ ap (λ (k : ℕ). get_or (xs ++ y ∷ []) k x) same ∙ get_or-append_seam xs y [] x in
          subst (λ (k : ℕ). R k x) (sym same) (subst (λ (v : X). R (length xs) v) (sym own) here)

      by_place : (i < length xs) ⊎ (length xs ≤ i) → R i x
      by_place (inl low) = before i x low (is ∙ get_or_append_left xs (y ∷ []) x i low)
      by_place (inr high) = at_end (omega (arith, length-append xs (y ∷ [])))
