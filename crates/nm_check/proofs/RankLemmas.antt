-- What holds of each rank, one rank after another, as a loop finds it.
use Rattle.std.proofs.Common.{◌≡◌, ℕ, ◌+◌, ◌<◌, ◌≤◌, ◌⊎◌, inl, inr, Option, Some, None, List, length, get_or, sym}
use Rattle.std.proofs.Common.{subst, arith, below_more}
use Rattle.std.specs.Prelude.{IfSome}
use Rattle.std.specs.List.{slice_get}
use Rattle.std.proofs.lemmas.Bool.{cases_lt}
use Rattle.std.proofs.lemmas.List.{length-map}
use Rattle.std.proofs.lemmas.Option.{MatchOption-from_none, slice_get_past}
use Rattle.nm_history.specs.Quiescence.{EachRank, Ended}
use Rattle.nm_report.specs.declared.accounts.RankAccount.{RankAccount}
use Rattle.nm_report.specs.Ends.{end_of_account, ends_of}
use Rattle.nm_report.proofs.EndLemmas.{end_at}

-- there is no rank behind the last
pub no_end : (ranks : List RankAccount) (i : ℕ) → length ranks ≤ i → slice_get (ends_of ranks) i ≡ None
no_end ranks i over =
    let same : length (ends_of ranks) ≡ length ranks = length-map ranks end_of_account in
    slice_get_past (ends_of ranks) i (omega (arith, same, over))

module _ (R : ℕ → Ended → Type 0) (ranks : List Ended) where
  -- R holds of the ranks below this one
  abbrev pub UpTo : ℕ → Type 0
  UpTo i = (k : ℕ) → k < i → IfSome (slice_get ranks k) (R k)

  pub none_yet : UpTo 0
  none_yet k low = absurd (omega arith)

  pub next : (i : ℕ) → UpTo i → IfSome (slice_get ranks i) (R i) → UpTo (i + 1)
  next i below here = below_more (λ k. IfSome (slice_get ranks k) (R k)) i below here

  pub all : (i : ℕ) → length ranks ≤ i → UpTo i → EachRank R ranks
  all i over below k = by_place (cases_lt k i)
    where
      by_place : (k < i) ⊎ (i ≤ k) → IfSome (slice_get ranks k) (R k)
      by_place (inl low) = below k low
      by_place (inr high) = MatchOption-from_none (slice_get ranks k) (R k)
          (slice_get_past ranks k (omega (arith, over, high)))

  pub below : (i : ℕ) → UpTo i → EachRank (λ k rank. k < i → R k rank) ranks
  below i before k = by_rank (slice_get ranks k) (before k)
    where
      by_rank : (o : Option Ended) → (k < i → IfSome o (R k)) → IfSome o (λ rank. k < i → R k rank)
      by_rank None before = tt
      by_rank (Some rank) before = before

module _ (R : ℕ → Ended → Type 0) (ranks : List RankAccount) where
  -- the same for ranks with their accounts
  pub next_rank : (i : ℕ) (a : RankAccount) → i < length ranks → a ≡ get_or ranks i a → UpTo R (ends_of ranks) i →
      R i (end_of_account a) → UpTo R (ends_of ranks) (i + 1)
  next_rank i a inside is below here =
      next R (ends_of ranks) i below (subst (λ (o : Option Ended). IfSome o (R i)) (sym (end_at ranks i a inside is))
      here)

  pub all_ranks : (i : ℕ) → length ranks ≤ i → UpTo R (ends_of ranks) i → EachRank R (ends_of ranks)
  all_ranks i over below =
      let same : length (ends_of ranks) ≡ length ranks = length-map ranks end_of_account in
      all R (ends_of ranks) i (omega (arith, same, over)) below

  pub of_rank : (i : ℕ) (a : RankAccount) → i < length ranks → a ≡ get_or ranks i a → EachRank R (ends_of ranks) →
      R i (end_of_account a)
  of_rank i a inside is each = subst (λ (o : Option Ended). IfSome o (R i)) (end_at ranks i a inside is) (each i)
