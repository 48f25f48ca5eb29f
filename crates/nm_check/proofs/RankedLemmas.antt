-- The tables of the ranks, one rank after another.
use Rattle.std.proofs.Common.{◌≡◌, ℕ, ◌<◌, Option, List, length, get_or, sym, subst}
use Rattle.std.specs.Prelude.{IsSomeAnd}
use Rattle.std.specs.List.{slice_get}
use Rattle.nm_history.specs.Quiescence.{Ended}
use Rattle.nm_report.specs.declared.accounts.RankAccount.{RankAccount}
use Rattle.nm_report.specs.Ends.{end_of_account, ends_of}
use Rattle.nm_report.proofs.EndLemmas.{end_at}

-- what is so of the rank at a place
pub of_end : (ranks : List RankAccount) (i : ℕ) (a : RankAccount) (P : Ended → Type 0) → i < length ranks →
    a ≡ get_or ranks i a → P (end_of_account a) →
    IsSomeAnd (slice_get (ends_of ranks) i) P
of_end ranks i a P inside is here = subst (λ (o : Option Ended). IsSomeAnd o P) (sym (end_at ranks i a inside is)) here
