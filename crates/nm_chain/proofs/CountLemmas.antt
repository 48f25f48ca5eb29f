-- How many cells a chain has that has each cell of a rank once.
use Rattle.std.proofs.Common.{◌≡◌, ◌≢◌, ℕ, zero, suc, ◌+◌, ◌<◌, ◌≤◌, List, [], ◌∷◌, length, sym}
use Rattle.std.proofs.Common.{refl, ap, ◌∙◌, inl, inr, ⊎_elim, arith}
use mathlib.Core.Logic.{dite}
use native.Mathlib.Decide.{ℕ_discrete}
use Rattle.nm_chain.specs.Chain.{Item, Has, Lacks, Once}
use Rattle.nm_chain.proofs.ChainLemmas.{lacks}

module _ {L : Type 0} where
  record Without (c : ℕ) (xs : List (Item L)) : Type 0 where
    rest : List (Item L)
    shorter : length xs ≡ suc (length rest)
    once : Once rest
    stays : (d : ℕ) → d ≢ c → Has d xs → Has d rest
    was : (d : ℕ) → Has d rest → Has d xs × (d ≢ c)

  lacks_all : (x : ℕ) (xs : List (Item L)) → ((d : ℕ) → Has d xs → x ≢ d) → Lacks x xs
  lacks_all x [] f = tt
  lacks_all x (y ∷ ys) f = (f y.cell (inl refl), lacks_all x ys (λ d h. f d (inr h)))

  -- a cell is taken out of a chain
  without : (c : ℕ) (xs : List (Item L)) → Once xs → Has c xs → Without c xs
  without c [] o h = absurd h
  without c (x ∷ xs) o h = dite (ℕ_discrete c x.cell)
      (λ e. record {
        rest = xs;
        shorter = refl;
        once = o.1;
        stays = λ d ne k. ⊎_elim (λ s. absurd (ne (s ∙ sym e))) (λ u. u) k;
        was = λ d k. (inr k, λ s. lacks xs x.cell d o.0 k (sym (s ∙ e)));
      })
      (λ ne. let w = without c xs o.1 (⊎_elim (λ s. absurd (ne s)) (λ u. u) h) in record {
        rest = x ∷ w.rest;
        shorter = ap suc w.shorter;
        once = (lacks_all x.cell w.rest (λ d k. lacks xs x.cell d o.0 (w.was d k).0), w.once);
        stays = λ d other k. ⊎_elim (λ s. inl s) (λ u. inr (w.stays d other u)) k;
        was = λ d k. ⊎_elim (λ s. (inl s, λ z. ne (sym z ∙ s)))
            (λ u. (inr (w.was d u).0, (w.was d u).1)) k;
      })

  -- a chain that has the k cells from a on, each once, and no others, has k cells
  pub counts : (k a : ℕ) (xs : List (Item L)) → Once xs
      → ((c : ℕ) → Has c xs → (a ≤ c) × (c < a + k)) → ((c : ℕ) → a ≤ c → c < a + k → Has c xs)
      → length xs ≡ k
  counts zero a [] o low all = refl
  counts zero a (x ∷ xs) o low all = let b = low x.cell (inl refl) in let b₀ = b.0 in
      let b₁ = b.1 in absurd (omega arith)
  counts (suc k) a xs o low all = let w =
      without (a + k) xs o (all (a + k) (omega arith) (omega arith)) in
      w.shorter ∙ ap suc (counts k a w.rest w.once (λ c h. let b = low c (w.was c h).0 in
      let b₀ = b.0 in let b₁ = b.1 in let ne = (w.was c h).1 in (omega arith, omega arith))
      (λ c l u. w.stays c (λ e. omega arith) (all c l (omega arith))))
