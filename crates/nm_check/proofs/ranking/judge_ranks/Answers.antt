use Rattle.std.proofs.Common.{◌≡◌, ℕ, ◌+◌, ◌∷◌, [], List, length, sym, ◌∙◌, ap, subst, arith, length-append}
use Rattle.std.proofs.lemmas.List.{length-map}
use Rattle.nm_types.specs.Commands.{commands_of}
use Rattle.nm_history.specs.RankRun.{IsRankRun}
use Rattle.nm_report.specs.Ends.{end_of_account, ends_of}
use Rattle.nm_check_rank.specs.Tabled.{AreRankTables}
use Rattle.nm_check_rank.specs.declared.paired.tables.Tables.{Tables}
use Rattle.nm_check_rank.specs.FirstBroken.{IsFirstBroken}
use Rattle.nm_check_rank.specs.OwnBreaks.{IsBreach}
use Rattle.nm_check_rank.specs.OwnClauses.{KeepsOwn, own_order}
use Rattle.nm_check.specs.Verdicts.{RunsItsOwn}
use Rattle.nm_check.proofs.ItemLemmas.{EachItem, no_item, one_more}
use Rattle.nm_check.proofs.RankLemmas.{all_ranks, below, next_rank, none_yet}
use Rattle.nm_check.proofs.RankedLemmas.{of_end}
use Rattle.nm_check.proofs.TableLemmas.{TabledAt}
use Rattle.nm_check.proofs.ranking.judge_ranks.Goals as goal

pub returns-in-Breaks : goal.returns-in-Breaks
returns-in-Breaks c =
    let judged = rw c.as_slice-events.ensures at (rw c.in-Breaks.is at c.in_ok-own.ensures) in
    let broken : IsFirstBroken
    (KeepsOwn c.args.shape (commands_of c.loop-i.i c.args.lines.now) c.index-ranks-i.result.at
    c.index-ranks-i.result.history.events) own_order c.in-Breaks.clause = judged.0 in
    let first : IsBreach c.args.shape (commands_of c.loop-i.i c.args.lines.now) c.index-ranks-i.result.at
    c.index-ranks-i.result.history.events c.in-Breaks.first = judged.1 in (
      record {
        earlier = below (RunsItsOwn c.args.shape c.args.lines.now) (ends_of c.args.ranks.now) c.loop-i.i
            c.loop-i.invariant.1;
        first = of_end c.args.ranks.now c.loop-i.i c.index-ranks-i.result
            (λ rank. IsFirstBroken (KeepsOwn c.args.shape (commands_of c.loop-i.i c.args.lines.now) rank.at rank.events)
            own_order c.in-Breaks.clause)
            c.loop-i-test.true c.index-ranks-i.is broken;
      },
      of_end c.args.ranks.now c.loop-i.i c.index-ranks-i.result
          (λ rank. IsBreach c.args.shape (commands_of c.loop-i.i c.args.lines.now) rank.at rank.events
          c.in-Breaks.first)
          c.loop-i-test.true c.index-ranks-i.is first,
    )

pub loop-i-init : goal.loop-i-init
loop-i-init c = (
  ap (λ (xs : List Tables). length xs) c.new-tables.ensures.items,
  none_yet (RunsItsOwn c.args.shape c.args.lines.now) (ends_of c.args.ranks.now),
  subst (λ (xs : List Tables). EachItem (TabledAt c.args.lines.now (ends_of c.args.ranks.now)) xs)
      (sym c.new-tables.ensures.items)
      (no_item (TabledAt c.args.lines.now (ends_of c.args.ranks.now))),
)

pub loop-i-preserved : goal.loop-i-preserved
loop-i-preserved c =
    let judged : IsRankRun c.args.shape (commands_of c.loop-i.i c.args.lines.now) c.index-ranks-i.result.at
    c.index-ranks-i.result.history.events
    × AreRankTables c.loop-i.i c.args.lines.now c.index-ranks-i.result.history.events c.in-Runs.own =
    rw c.as_slice-events.ensures at (rw c.in-Runs.is at c.in_ok-own.ensures) in
    let many : length c.loop-i.tables.items ≡ c.loop-i.i = c.loop-i.invariant.0 in
    let here : TabledAt c.args.lines.now (ends_of c.args.ranks.now) c.loop-i.i c.in-Runs.own =
    of_end c.args.ranks.now c.loop-i.i c.index-ranks-i.result
    (λ rank. AreRankTables c.loop-i.i c.args.lines.now rank.events c.in-Runs.own) c.loop-i-test.true
    c.index-ranks-i.is judged.1 in
    rw c.in_ok-push-in-Runs.ensures.items (
      length-append c.loop-i.tables.items (c.in-Runs.own ∷ []) ∙ ap (λ (n : ℕ). n + 1) many,
      next_rank (RunsItsOwn c.args.shape c.args.lines.now) c.args.ranks.now c.loop-i.i c.index-ranks-i.result
          c.loop-i-test.true c.index-ranks-i.is
          c.loop-i.invariant.1 judged.0,
      one_more (TabledAt c.args.lines.now (ends_of c.args.ranks.now)) c.loop-i.tables.items c.in-Runs.own
          c.loop-i.invariant.2
          (subst (λ (n : ℕ). TabledAt c.args.lines.now (ends_of c.args.ranks.now) n c.in-Runs.own) (sym many) here),
    )

pub returns : goal.returns
returns c =
    let many : length (ends_of c.args.ranks.now) ≡ length c.args.ranks.now =
    length-map c.args.ranks.now end_of_account in (
      all_ranks (RunsItsOwn c.args.shape c.args.lines.now) c.args.ranks.now c.loop-i.i c.loop-i-test.false
          c.loop-i.invariant.1,
      record {
        as_many = omega (arith, many, c.loop-i.invariant.0, c.loop-i-test.false, c.loop-i.auto.i-end);
        each =
            c.loop-i.invariant.2;
      },
    )
