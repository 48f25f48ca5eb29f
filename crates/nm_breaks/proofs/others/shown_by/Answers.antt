use Rattle.std.proofs.Common.{Option, ◌∙◌, ap}
use Rattle.nm_history.specs.declared.plain.Pair.{Pair}
use Rattle.nm_history.specs.Quiescence.{history_of}
use Rattle.nm_report.specs.Ends.{ends_of}
use Rattle.nm_check.proofs.TableLemmas.{table_inside}
use Rattle.nm_breaks.specs.Others.{sent_held}
use Rattle.nm_breaks.proofs.OtherLemmas.{tables_here}
use Rattle.nm_breaks.proofs.others.shown_by.Goals as goal

pub bounds-tables-i : goal.bounds-tables-i
bounds-tables-i c =
    table_inside c.args.ranks.now c.args.tables.now c.args.x (c.args.lines.now, c.requires.tabled) c.requires.known

pub returns : goal.returns
returns c = λ e answer here ran.
    let ends = ends_of c.args.ranks.now in
    c.sent_of.ensures
    ∙ ap (λ (o : Option Pair). sent_held ends c.args.x o)
    (c.pair_asked-pair.ensures (history_of ends c.args.x) e answer
    (tables_here c.args.lines.now c.args.ranks.now c.args.tables.now c.args.x c.index-tables-i.result c.requires.tabled
    c.requires.known c.index-tables-i.is) here ran)
