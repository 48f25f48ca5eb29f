-- How texts are put together.
use Rattle.std.specs.Prelude.{ℕ, ◌+◌, List, [], ◌∷◌, ◌++◌}
use Rattle.nm_report.specs.declared.accounts.RankAccount.{RankAccount}

-- one text after another
infixr 5 ◌⧺◌
abbrev pub ◌⧺◌ : List ℕ → List ℕ → List ℕ
xs ⧺ ys = xs ++ ys

-- with a space between
infixr 5 ◌␣◌
abbrev pub ◌␣◌ : List ℕ → List ℕ → List ℕ
xs ␣ ys = xs ++ 32 ∷ ys

-- the texts of ranks in order, of which the first has this number
abbrev pub from_rank : (ℕ → RankAccount → List ℕ) → ℕ → List RankAccount → List ℕ
from_rank text_of rank [] = []
from_rank text_of rank (account ∷ accounts) =
    text_of rank account ⧺ from_rank text_of (rank + 1) accounts

-- the texts of all ranks, in order
abbrev pub by_rank : (ℕ → RankAccount → List ℕ) → List RankAccount → List ℕ
by_rank text_of accounts = from_rank text_of 0 accounts
