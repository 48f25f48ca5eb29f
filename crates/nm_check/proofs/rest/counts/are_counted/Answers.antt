use Rattle.std.proofs.Common.{◌≡◌, ◌++◌, ◌≤◌, List, length, subst, arith}
use Rattle.std.specs.List.{range_with_len}
use Rattle.std.proofs.lemmas.List.{length-map, take_all}
use Rattle.nm_history.specs.Outgoing.{packets_to}
use Rattle.nm_history.specs.Quiescence.{Ended, packets_by_rank}
use Rattle.nm_report.specs.Ends.{end_of_account, ends_of, packets_of}
use Rattle.nm_check.proofs.TableLemmas.{table_inside, tables_at}
use Rattle.nm_check.proofs.CountingLemmas.{all_decided, rank_breaks, rank_more}
use Rattle.nm_check.proofs.rest.counts.are_counted.Goals as goal

pub bounds-tables-i : goal.bounds-tables-i
bounds-tables-i c = table_inside c.args.ranks.now c.args.tables.now c.loop-i.i c.requires.tabled c.loop-i-test.true

pub counts_of-counts-requires : goal.counts_of-counts-requires
counts_of-counts-requires c = (
  c.loop-i.i,
  c.requires.tabled.0,
  tables_at c.args.ranks.now c.args.tables.now c.loop-i.i c.index-ranks-i.result c.index-tables-i.result
      c.requires.tabled c.loop-i-test.true c.index-ranks-i.is c.index-tables-i.is,
)

-- what is counted is due
pub loop-i-preserved : goal.loop-i-preserved
loop-i-preserved c = λ lines.
    rank_more lines c.args.ranks.now c.loop-i.i c.index-ranks-i.result c.loop-i-test.true c.index-ranks-i.is
    (packets_of c.args.pairs.now) (packets_of c.loop-i.left.now) (packets_of c.in-Some.others.now)
    (c.loop-i.invariant lines)
    (c.in-Some.ensures (packets_to c.index-ranks-i.result.history.events) c.counts_of-counts.ensures.exact)

pub returns-in-None : goal.returns-in-None
returns-in-None c = λ lines same.
    rank_breaks lines c.args.ranks.now c.loop-i.i c.index-ranks-i.result c.loop-i-test.true c.index-ranks-i.is
    (packets_of c.args.pairs.now) (packets_of c.loop-i.left.now) (c.loop-i.invariant lines)
    (c.in-None.ensures (packets_to c.index-ranks-i.result.history.events) c.counts_of-counts.ensures.exact) same

pub returns : goal.returns
returns c = λ lines.
    let ends : List Ended = ends_of c.args.ranks.now in
    let many : length ends ≡ length c.args.ranks.now = length-map c.args.ranks.now end_of_account in
    let over : length ends ≤ c.loop-i.i = omega (arith, many, c.loop-i-test.false) in
    all_decided (packets_of c.args.pairs.now) (packets_of c.loop-i.left.now)
    (packets_by_rank lines (range_with_len 0 (length ends)) 0 ends) c.is_empty.result
    (subst (λ (es : List Ended). packets_of c.args.pairs.now ≡ packets_by_rank lines (range_with_len 0 (length ends))
    0 es ++ packets_of c.loop-i.left.now)
    (take_all c.loop-i.i ends over) (c.loop-i.invariant lines))
    (rw length-map c.is_empty.ensures)
