use Rattle.std.proofs.Common.{◌≡◌, ◌≤◌, List, length, ◌∙◌, ap, arith}
use Rattle.std.specs.List.{range_with_len}
use Rattle.std.proofs.lemmas.List.{length-map, take_all}
use Rattle.nm_history.specs.Outgoing.{packets_to}
use Rattle.nm_history.specs.Quiescence.{Ended, packets_by_rank}
use Rattle.nm_report.specs.Ends.{end_of_account, ends_of, packets_of}
use Rattle.nm_check.proofs.MiscountLemmas.{rows_pushed}
use Rattle.nm_check.proofs.RankLemmas.{of_rank}
use Rattle.nm_check.proofs.TableLemmas.{table_inside, tables_at}
use Rattle.nm_check.proofs.rest.counts.counts_due.Goals as goal

pub bounds-tables-i : goal.bounds-tables-i
bounds-tables-i c = table_inside c.args.ranks.now c.args.tables.now c.loop-i.i c.requires.tabled c.loop-i-test.true

pub counts_of-counts-requires : goal.counts_of-counts-requires
counts_of-counts-requires c = (
  c.loop-i.i,
  c.requires.tabled.0,
  tables_at c.args.ranks.now c.args.tables.now c.loop-i.i c.index-ranks-i.result c.index-tables-i.result
      c.requires.tabled c.loop-i-test.true c.index-ranks-i.is c.index-tables-i.is,
)

-- what is counted is due, and few
pub push_row-requires : goal.push_row-requires
push_row-requires c = λ to low.
    let few = c.counts_of-counts.ensures.few to in
    let due = c.counts_of-counts.ensures.exact to low in
    let short = of_rank (λ i rank. length rank.events ≤ 67108864) c.args.ranks.now c.loop-i.i c.index-ranks-i.result
    c.loop-i-test.true c.index-ranks-i.is c.requires.short in
    omega (arith, due, few, short)

pub loop-i-preserved : goal.loop-i-preserved
loop-i-preserved c = λ lines.
    let short = of_rank (λ i rank. length rank.events ≤ 67108864) c.args.ranks.now c.loop-i.i c.index-ranks-i.result
    c.loop-i-test.true c.index-ranks-i.is c.requires.short in
    rows_pushed lines c.args.ranks.now c.loop-i.i c.index-ranks-i.result c.loop-i-test.true c.index-ranks-i.is
    (packets_of c.loop-i.due.items) (packets_of c.push_row.new.due.items) (c.loop-i.invariant lines)
    (c.in_ok-push_row.ensures (packets_to c.index-ranks-i.result.history.events) c.counts_of-counts.ensures.exact
    (λ to. let few = c.counts_of-counts.ensures.few to in omega (arith, few, short)))

pub returns : goal.returns
returns c = λ lines.
    let ends : List Ended = ends_of c.args.ranks.now in
    let many : length ends ≡ length c.args.ranks.now = length-map c.args.ranks.now end_of_account in
    let over : length ends ≤ c.loop-i.i = omega (arith, many, c.loop-i-test.false) in
    c.loop-i.invariant lines
    ∙ ap (λ (es : List Ended). packets_by_rank lines (range_with_len 0 (length ends)) 0 es)
    (take_all c.loop-i.i ends over)
