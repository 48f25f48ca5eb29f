use Rattle.std.proofs.Common.{get_or, ap, sym, subst, Option}
use Rattle.std.specs.Prelude.{IsSomeAnd}
use Rattle.nm_history.specs.Quiescence.{Ended}
use Rattle.nm_report.specs.Ends.{ends_of}
use Rattle.nm_report.proofs.EndLemmas.{end_at}
use Rattle.nm_check_rank.specs.Breaks.{BreaksFirstAt}
use Rattle.nm_check.proofs.RankLemmas.{all_ranks, below, next_rank, none_yet}
use Rattle.nm_check_rank.specs.declared.paired.tables.Tables.{Tables}
use Rattle.nm_check.proofs.TableLemmas.{table_inside, tables_at}
use Rattle.nm_check.specs.RestBreaks.{KeepRestAt}
use Rattle.nm_check.proofs.RestFirstLemmas.{whole_rule}
use Rattle.nm_check.proofs.rest.firsts.first_rest_at.Goals as goal

pub loop-i-init : goal.loop-i-init
loop-i-init c = none_yet (λ x rank. KeepRestAt c.args.rule (ends_of c.args.of.now.ranks.now) x rank.events rank.events)
    (ends_of c.args.of.now.ranks.now)

pub bounds-tables-i : goal.bounds-tables-i
bounds-tables-i c = table_inside c.args.of.now.ranks.now c.args.of.now.tables.now c.loop-i.i
    (c.args.of.now.lines.now, c.requires.tabled) c.loop-i-test.true

pub first_of_rank-requires : goal.first_of_rank-requires
first_of_rank-requires c = rw c.as_slice-events.ensures (record {
  places = (tables_at c.args.of.now.ranks.now c.args.of.now.tables.now c.loop-i.i c.index-ranks-i.result
      (get_or c.args.of.now.tables.now c.loop-i.i c.index-tables-i.result) (c.args.of.now.lines.now, c.requires.tabled)
      c.loop-i-test.true c.index-ranks-i.is
      (ap (λ (x : Tables). get_or c.args.of.now.tables.now c.loop-i.i x) c.index-tables-i.is)).places;
  looked = record { lawful = c.requires.ordered.0; tabled = c.requires.tabled };
})

pub loop-i-preserved : goal.loop-i-preserved
loop-i-preserved c =
    next_rank (λ x rank. KeepRestAt c.args.rule (ends_of c.args.of.now.ranks.now) x rank.events rank.events)
    c.args.of.now.ranks.now c.loop-i.i c.index-ranks-i.result c.loop-i-test.true c.index-ranks-i.is c.loop-i.invariant
    (rw c.as_slice-events.ensures at c.in_default.ensures)

pub returns-in-Some : goal.returns-in-Some
returns-in-Some c = λ lines packets. record {
  earlier = below (λ x rank. KeepRestAt c.args.rule (ends_of c.args.of.now.ranks.now) x rank.events rank.events)
      (ends_of c.args.of.now.ranks.now) c.loop-i.i c.loop-i.invariant;
  first = subst (λ (o : Option Ended). IsSomeAnd o (λ rank. BreaksFirstAt
      (KeepRestAt c.args.rule (ends_of c.args.of.now.ranks.now) c.loop-i.i rank.events) rank.events c.in-Some.at))
      (sym (end_at c.args.of.now.ranks.now c.loop-i.i c.index-ranks-i.result c.loop-i-test.true c.index-ranks-i.is))
      (rw c.as_slice-events.ensures at c.in-Some.ensures);
}

pub returns : goal.returns
returns c = λ lines packets.
    whole_rule lines (ends_of c.args.of.now.ranks.now) packets c.requires.ordered c.args.rule
    (all_ranks (λ x rank. KeepRestAt c.args.rule (ends_of c.args.of.now.ranks.now) x rank.events rank.events)
    c.args.of.now.ranks.now c.loop-i.i c.loop-i-test.false c.loop-i.invariant)
