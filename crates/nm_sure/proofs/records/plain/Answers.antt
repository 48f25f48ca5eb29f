-- What is told is what the plain run tells, and so is the report.
use Rattle.std.proofs.Common.{◌≡◌, ◌≤◌, ℕ, List, ap, length, map, subst, sym, ◌∙◌}
use Rattle.std.specs.Prelude.{is_none}
use Rattle.std.specs.List.{list_all}
use Rattle.nm_types.specs.declared.scripts.Line.{Line}
use Rattle.nm_types.specs.Commands.{commands_of}
use Rattle.nm_report.specs.declared.accounts.RankAccount.{RankAccount}
use Rattle.nm_report.specs.Told.{told_of_rank}
use Rattle.nm_sure.specs.Plain.{at_of, plain_end}
use Rattle.nm_sure.specs.PlainText.{plain_done, plain_text}
use Rattle.nm_sure.proofs.Stepping.{end_counts, end_within}
use Rattle.nm_sure.proofs.Telling.{ended_of, report_of}
use Rattle.nm_sure.proofs.records.plain.Goals as goal
use Rattle.nm_sure.proofs.records.plain.Goals.{After-as_slice}

-- how far the run got, by its plan and by its script
own_end : (c : After-as_slice) → c.as_slice.result.now
    ≡ plain_end c.in_ok-plan.plan.eager (length c.in_ok-plan.plan.ranks.items) c.in_ok-plan.plan.lines.now
own_end c = c.as_slice.ensures.value ∙ c.in_ok-reached.ensures

end_here : (c : After-as_slice) → c.as_slice.result.now ≡ plain_end c.args.shape.eager c.args.shape.ranks
    c.in_ok-plan.plan.lines.now
end_here c =
    own_end c
    ∙ ap (λ (e : ℕ). plain_end e (length c.in_ok-plan.plan.ranks.items) c.in_ok-plan.plan.lines.now)
    (c.in_ok-plan.ensures.eager ∙ c.eager.ensures.value)
    ∙ ap (λ (r : ℕ). plain_end c.args.shape.eager r c.in_ok-plan.plan.lines.now)
    (c.in_ok-plan.ensures.ranks ∙ sym c.requires.ranks)

pub accounts-requires-clause-ranks : goal.accounts-requires-clause-ranks
accounts-requires-clause-ranks c =
    ap (λ (at : List ℕ). length at) (own_end (goal.at.accounts-requires-clause-ranks c).After-as_slice)
    ∙ end_counts c.in_ok-plan.plan.eager (length c.in_ok-plan.plan.ranks.items) c.in_ok-plan.plan.lines.now

pub accounts-requires-clause-within : goal.accounts-requires-clause-within
accounts-requires-clause-within c rank =
    subst (λ (at : List ℕ). at_of at rank ≤ length (commands_of rank c.in_ok-plan.plan.lines.now))
    (sym (own_end (goal.at.accounts-requires-clause-within c).After-as_slice))
    (end_within c.in_ok-plan.plan.eager (length c.in_ok-plan.plan.ranks.items) c.in_ok-plan.plan.lines.now rank)

pub returns-clause-text : goal.returns-clause-text
returns-clause-text c =
    let ended = ended_of c.args.shape c.in_ok-plan.plan.lines.now c.in_ok-ranks.ranks c.as_slice.result.now
    c.are_done-done.result
    (end_here (goal.at.returns-clause-text c).After-as_slice) c.in_ok-ranks.ensures
    (c.are_done-done.ensures ∙ ap (λ (each : List RankAccount). list_all (λ (a : RankAccount). is_none a.waits) each)
    c.as_slice-2.ensures) in
    c.in_ok-text.ensures
    ∙ c.reports_say_what_was_told.ensures (record {
      shape = c.args.shape;
      ranks = c.in_ok-ranks.ranks;
      pairs = c.new.result;
      cells = c.all_home.result;
      done = c.are_done-done.result;
    })
    ∙ report_of c.args.shape c.in_ok-plan.plan.lines.now (map told_of_rank c.in_ok-ranks.ranks) c.as_slice.result.now
    c.all_home.result
    c.are_done-done.result (end_here (goal.at.returns-clause-text c).After-as_slice) c.in_ok-ranks.ensures
    c.all_home.ensures ended.0
    ∙ ap (λ (ls : List Line). plain_text c.args.shape ls) c.in_ok-plan.ensures.lines

pub returns-clause-done : goal.returns-clause-done
returns-clause-done c =
    let ended = ended_of c.args.shape c.in_ok-plan.plan.lines.now c.in_ok-ranks.ranks c.as_slice.result.now
    c.are_done-done.result
    (end_here (goal.at.returns-clause-done c).After-as_slice) c.in_ok-ranks.ensures
    (c.are_done-done.ensures ∙ ap (λ (each : List RankAccount). list_all (λ (a : RankAccount). is_none a.waits) each)
    c.as_slice-2.ensures) in
    ended.1 ∙ ap (λ (ls : List Line). plain_done c.args.shape ls) c.in_ok-plan.ensures.lines
