-- The record is of one rank, which waits.
use Rattle.std.proofs.Common.{false, List, ap, refl, ◌∙◌, ◌++◌, ◌∷◌, [], Some}
use Rattle.nm_report.specs.declared.accounts.RankAccount.{RankAccount}
use Rattle.nm_report.specs.declared.records.RunRecord.{RunRecord}
use Rattle.uses.proofs.StandingLemmas.{also, standing}
use Rattle.uses.proofs.report.telling.stands_at.Goals as goal

pub returns : goal.returns
returns c =
    let account : RankAccount = record { history = c.from_vec.result; at = 0; waits = Some c.args.line } in
    let run : RunRecord =
    record {
      shape = c.args.shape;
      ranks = c.push.new.self;
      pairs = c.new-2.result;
      cells = record { total = 8; home = 8 };
      done = false;
    } in
    also (λ text. text.items) c.report.result _ _ c.report.ensures
    (standing run account c.args.line
    (c.in_ok-push.ensures.ok ∙ ap (λ (xs : List RankAccount). xs ++ account ∷ []) c.new-ranks.ensures)
    (c.from_vec.ensures ∙ c.new.ensures.items) refl refl refl)
