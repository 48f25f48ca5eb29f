use mathlib.Core.Bool.{beq}
use Rattle.std.proofs.Common.{◌≡◌, Bool, sym, ◌∙◌, ap, subst}
use Rattle.std.specs.Prelude.{List, is_none}
use Rattle.std.specs.List.{list_all}
use Rattle.std.proofs.lemmas.List.Folds.{list_all-map}
use Rattle.nm_history.specs.Quiescence.{Ended}
use Rattle.nm_report.specs.declared.accounts.RankAccount.{RankAccount}
use Rattle.nm_lookups.specs.Deciding.{Decides}
use Rattle.nm_check_rank.proofs.RuleLemmas.{same_decided}
use Rattle.nm_check.proofs.judging.is_marked.Goals as goal

ended : RankAccount → Ended
ended rank = record { at = rank.at; waits = rank.waits; events = rank.history.events }

pub returns : goal.returns
unfolding ended
returns c =
    let ranks : List RankAccount = c.args.run.now.ranks in
    let all : c.are_all_done.result ≡ list_all (λ (rank : RankAccount). is_none rank.waits) ranks =
    c.are_all_done.ensures ∙ ap (λ (rs : List RankAccount). list_all (λ (rank : RankAccount). is_none rank.waits) rs)
    c.as_slice.ensures in
    subst (λ (d : Bool). Decides (beq c.args.run.now.done c.are_all_done.result) (c.args.run.now.done ≡ d))
    (all ∙ sym (list_all-map (λ (rank : Ended). is_none rank.waits) ended ranks))
    (same_decided c.args.run.now.done c.are_all_done.result)
