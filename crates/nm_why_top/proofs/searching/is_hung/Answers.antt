-- An end tells of each rank whether it waits.
use Rattle.std.proofs.Common.{List, ◌∙◌, ap}
use Rattle.std.specs.Prelude.{is_some}
use Rattle.std.specs.List.{list_any}
use Rattle.nm_report.specs.declared.accounts.RankAccount.{RankAccount}
use Rattle.nm_why_top.proofs.FateLemmas.{hung_told}
use Rattle.nm_why_top.proofs.searching.is_hung.Goals as goal

pub returns : goal.returns
returns c =
    c.does_one_wait.ensures
    ∙ ap (λ (accounts : List RankAccount). list_any (λ (account : RankAccount). is_some account.waits) accounts)
    c.as_slice.ensures
    ∙ hung_told c.args.end.now.told
