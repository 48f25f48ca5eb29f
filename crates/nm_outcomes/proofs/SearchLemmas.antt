-- Chosen moves that are enough lead to each end, and a search that makes them finds it.
use Rattle.std.proofs.Common.{◌≡◌, ◌⊎◌, inl, inr, ℕ, zero, suc, refl, sym, subst, arith}
use Rattle.nm_outcomes.specs.Searches.{AreEnough, IsExplored, IsPath}

module _ {S : Type 0} (Goes : S → S → Type 0) (Ends : S → Type 0) (At : S → Type 0) (Chosen : S → S → Type 0)
    (enough : AreEnough Goes Ends At Chosen)
  where
    -- a path to an end can begin with a chosen move
    pub chosen_first : (n : ℕ) (s e : S) → At s → IsPath Goes n s e → Ends e →
        (k : ℕ) × (suc k ≡ n) × (t : S) × Chosen s t × IsPath Goes k t e
    chosen_first zero s e at path ends = absurd (enough.no_end s at (subst Ends (sym path) ends))
    chosen_first (suc n) s e at path ends =
        by_move (enough.others s path.0 at path.1) (λ later. chosen_first n path.0 e later path.2 ends)
      where
        by_move : Chosen s path.0
            ⊎ (At path.0 × ((v : S) → Chosen path.0 v → (t : S) × Chosen s t × Goes t v)) →
            (At path.0 → (k : ℕ) × (suc k ≡ n) × (t : S) × Chosen path.0 t × IsPath Goes k t e) →
            (k : ℕ) × (suc k ≡ suc n) × (t : S) × Chosen s t × IsPath Goes k t e
        by_move (inl chosen) more = (n, refl, path.0, chosen, path.2)
        by_move (inr later) more =
            let rest = more later.0 in
            let swapped = later.1 rest.2 rest.3 in (
              n,
              refl,
              swapped.0,
              swapped.1,
              subst (λ (m : ℕ). IsPath Goes m swapped.0 e) rest.1 (rest.2, swapped.2, rest.4),
            )

-- where at each state all moves are made, or those of one choice that are enough
module _ {S X : Type 0} (Goes : S → S → Type 0) (Ends : S → Type 0) (At : X → S → Type 0)
    (Chosen : X → S → S → Type 0) (enough : (x : X) → AreEnough Goes Ends (At x) (Chosen x))
  where
    pub ends_found : (Found : S → Type 0) → ((s : S) → Found s → IsExplored Goes At Chosen Found s) →
        (n : ℕ) (s e : S) → Found s → IsPath Goes n s e → Ends e → Found e
    ends_found Found explored zero s e found path ends = subst Found path found
    ends_found Found explored (suc n) s e found path ends =
        by_kind (explored s found) (λ t found path. ends_found Found explored n t e found path ends)
      where
        by_kind : IsExplored Goes At Chosen Found s → ((t : S) → Found t → IsPath Goes n t e → Found e) → Found e
        by_kind (inl all) more = more path.0 (all path.0 path.1) path.2
        by_kind (inr some) more =
            let first = chosen_first Goes Ends (At some.0) (Chosen some.0) (enough some.0)
            (suc n) s e some.1 path ends in
            let same : first.0 ≡ n = (let one = first.1 in omega (arith, one)) in
            more first.2 (some.2 first.2 first.3) (subst (λ (m : ℕ). IsPath Goes m first.2 e) same first.4)
