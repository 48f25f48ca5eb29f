use Rattle.std.proofs.Common.{Option, sym, subst}
use Rattle.std.specs.Prelude.{IsSomeAnd}
use Rattle.nm_types.specs.Commands.{commands_of}
use Rattle.nm_history.specs.Quiescence.{Ended, IsStopped}
use Rattle.nm_report.specs.Ends.{ends_of}
use Rattle.nm_report.proofs.EndLemmas.{end_at}
use Rattle.nm_check.proofs.RankLemmas.{all_ranks, below, next_rank, none_yet}
use Rattle.nm_check.proofs.TableLemmas.{table_inside, tables_at}
use Rattle.nm_check.proofs.rest.waits.first_not_standing.Goals as goal

pub loop-i-init : goal.loop-i-init
loop-i-init c = none_yet (λ i rank. IsStopped (commands_of i c.args.lines.now) rank) (ends_of c.args.ranks.now)

pub bounds-tables-i : goal.bounds-tables-i
bounds-tables-i c = table_inside c.args.ranks.now c.args.tables.now c.loop-i.i (c.args.lines.now, c.requires.tabled)
    c.loop-i-test.true

pub is_standing-requires : goal.is_standing-requires
is_standing-requires c =
    tables_at c.args.ranks.now c.args.tables.now c.loop-i.i c.index-ranks-i.result c.index-tables-i.result
    (c.args.lines.now, c.requires.tabled)
    c.loop-i-test.true c.index-ranks-i.is c.index-tables-i.is

pub loop-i-preserved : goal.loop-i-preserved
loop-i-preserved c =
    next_rank (λ i rank. IsStopped (commands_of i c.args.lines.now) rank) c.args.ranks.now c.loop-i.i
    c.index-ranks-i.result c.loop-i-test.true c.index-ranks-i.is
    c.loop-i.invariant (rw c.if-not-is_standing.false at c.is_standing.ensures)

pub returns-then-not-is_standing : goal.returns-then-not-is_standing
returns-then-not-is_standing c = record {
  earlier = below (λ i rank. IsStopped (commands_of i c.args.lines.now) rank) (ends_of c.args.ranks.now) c.loop-i.i
      c.loop-i.invariant;
  first = subst (λ (o : Option Ended). IsSomeAnd o (λ rank. IsStopped (commands_of c.loop-i.i c.args.lines.now) rank →
      ⊥))
      (sym (end_at c.args.ranks.now c.loop-i.i c.index-ranks-i.result c.loop-i-test.true c.index-ranks-i.is))
      (rw c.if-not-is_standing.true at c.is_standing.ensures);
}

pub returns : goal.returns
returns c =
    all_ranks (λ i rank. IsStopped (commands_of i c.args.lines.now) rank) c.args.ranks.now c.loop-i.i
    c.loop-i-test.false
    c.loop-i.invariant
