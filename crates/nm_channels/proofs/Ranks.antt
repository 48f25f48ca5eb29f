-- A fact of each rank, rank by rank.
use Rattle.std.specs.Prelude.{ℕ, zero, suc, [], ◌∷◌}
use Rattle.nm_history.specs.Quiescence.{Ended, EachRank}

pub one_rank : (R : ℕ → Ended → Type 0) (a : Ended) → R 0 a → EachRank R (a ∷ [])
one_rank R a p zero = p
one_rank R a p (suc i) = tt
