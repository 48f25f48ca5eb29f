-- A search over states: the moves, and which of them are enough to find each end. In the words of
-- partial-order reduction these are persistent sets (Godefroid, 1996), or ample sets (Clarke, Grumberg and
-- Peled, 1999).
use Rattle.std.specs.Prelude.{◌≡◌, ◌⊎◌, ℕ, zero, suc, Bool, IsTrue}

-- so many moves lead from one state to another
abbrev pub IsPath : {S : Type 0} → (S → S → Type 0) → ℕ → S → S → Type 0
IsPath Goes zero s t = s ≡ t
IsPath {S} Goes (suc n) s t = (u : S) × Goes s u × IsPath Goes n u t

-- At these states, which are no ends, the chosen moves are enough: a move that is not chosen leads to
-- such a state again, and could as well have been made behind a chosen one.
pub record AreEnough {S : Type 0} (Goes : S → S → Type 0) (Ends : S → Type 0) (At : S → Type 0)
    (Chosen : S → S → Type 0) : Type 0 where
  pub no_end : (s : S) → At s → Ends s → ⊥
  pub others :
      (s u : S) → At s → Goes s u →
      Chosen s u ⊎ (At u × ((v : S) → Chosen u v → (t : S) × Chosen s t × Goes t v))

-- Of a state that was found, all moves were made, or those of one choice, which are enough there.
abbrev pub IsExplored : {S X : Type 0} → (S → S → Type 0) → (X → S → Type 0) → (X → S → S → Type 0) → (S → Type 0) → S →
    Type 0
IsExplored {S} {X} Goes At Chosen Found s =
    ((u : S) → Goes s u → Found u) ⊎ ((x : X) × At x s × ((u : S) → Chosen x s u → Found u))

-- Where all that was found is explored, each end that a path from it leads to was found: for states
-- and choices that are numbered, and tests of their moves. The lemma is of any states.
abbrev pub SearchesFindEnds : Type 0
SearchesFindEnds =
    (goes : ℕ → ℕ → Bool) (chosen : ℕ → ℕ → ℕ → Bool) (ends found : ℕ → Bool) (at : ℕ → ℕ → Bool) →
    ((x : ℕ) → AreEnough (λ s t. IsTrue (goes s t)) (λ s. IsTrue (ends s)) (λ s. IsTrue (at x s))
    (λ s t. IsTrue (chosen x s t))) →
    ((s : ℕ) → IsTrue (found s) →
    IsExplored (λ s t. IsTrue (goes s t)) (λ x s. IsTrue (at x s)) (λ x s t. IsTrue (chosen x s t))
    (λ s. IsTrue (found s)) s) →
    (n s e : ℕ) → IsTrue (found s) → IsPath (λ s t. IsTrue (goes s t)) n s e → IsTrue (ends e) → IsTrue (found e)
