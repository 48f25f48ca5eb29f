-- The end of a rank, by its account.
use Rattle.std.proofs.Common.{◌≡◌, ℕ, ◌<◌, Option, Some, List, length, get_or, sym, ◌∙◌, ap}
use Rattle.std.specs.Prelude.{option_map}
use Rattle.std.specs.List.{slice_get}
use Rattle.std.proofs.lemmas.Option.{slice_get-get_or, slice_get-map}
use Rattle.nm_report.specs.declared.accounts.RankAccount.{RankAccount}
use Rattle.nm_report.specs.Ends.{end_of_account, ends_of}

-- the end of the rank at a place
pub end_at : (ranks : List RankAccount) (i : ℕ) (a : RankAccount) → i < length ranks → a ≡ get_or ranks i a →
    slice_get (ends_of ranks) i ≡ Some (end_of_account a)
end_at ranks i a inside is =
    slice_get-map end_of_account ranks i
    ∙ ap (λ (o : Option RankAccount). option_map end_of_account o) (slice_get-get_or ranks i a inside
    ∙ ap (λ (x : RankAccount). Some x) (sym is))
