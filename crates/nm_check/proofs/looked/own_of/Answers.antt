use Rattle.std.proofs.Common.{arith}
use Rattle.nm_check.proofs.RankLemmas.{no_end}
use Rattle.nm_check.proofs.TableLemmas.{own_at, table_inside}
use Rattle.nm_check.proofs.looked.own_of.Goals as goal

pub returns-then-i-ranks : goal.returns-then-i-ranks
returns-then-i-ranks c = no_end c.args.of.now.ranks.now c.args.rank (omega (arith, c.if-i-ranks.true))

pub bounds-tables-i : goal.bounds-tables-i
bounds-tables-i c = table_inside c.args.of.now.ranks.now c.args.of.now.tables.now c.args.rank
    (c.args.of.now.lines.now, c.requires.tabled) c.if-i-ranks.false

pub returns : goal.returns
returns c =
    rw c.as_slice.ensures (own_at c.args.of.now.lines.now c.args.of.now.ranks.now c.args.of.now.tables.now c.args.rank
    c.index-ranks-i.result c.index-tables-i.result c.requires c.if-i-ranks.false c.index-ranks-i.is
    c.index-tables-i.is)
