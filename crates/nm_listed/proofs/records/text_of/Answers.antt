-- The report of what was told.
use Rattle.std.proofs.Common.{◌≡◌, ℕ, List, ap, subst, ◌∙◌}
use Rattle.std.specs.Prelude.{IfOk, is_none}
use Rattle.std.specs.List.{list_all}
use Rattle.nm_report.specs.declared.accounts.RankAccount.{RankAccount}
use Rattle.nm_listed.proofs.ToldLemmas.{text_of_record}
use Rattle.nm_listed.proofs.records.text_of.Goals as goal

pub returns : goal.returns
returns c =
    subst (λ (b : List ℕ). IfOk c.report.result (λ text. text.items ≡ b))
    (text_of_record c.reports_say_what_was_told.ensures c.args.shape (record {
      shape = c.args.shape;
      ranks = c.args.told;
      pairs = c.new.result;
      cells = c.all_home.result;
      done = c.are_done-done.result;
    }) c.all_home.ensures
    (c.are_done-done.ensures ∙ ap (λ (ranks : List RankAccount). list_all (λ account. is_none account.waits) ranks)
    c.as_slice.ensures)) c.report.ensures
