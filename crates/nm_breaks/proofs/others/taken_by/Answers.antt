use Rattle.std.proofs.Common.{ℕ, Option, subst}
use Rattle.nm_report.specs.Ends.{ends_of}
use Rattle.nm_check_rank.specs.Takes.{IsTakenAt}
use Rattle.nm_history.specs.Quiescence.{history_of}
use Rattle.nm_check.proofs.TableLemmas.{table_inside}
use Rattle.nm_breaks.proofs.OtherLemmas.{tables_here}
use Rattle.nm_breaks.proofs.others.taken_by.Goals as goal

pub bounds-tables-i : goal.bounds-tables-i
bounds-tables-i c = table_inside c.args.ranks.now c.args.tables.now c.args.y c.requires.tabled c.requires.known

pub held_at-requires-clause-inside : goal.held_at-requires-clause-inside
held_at-requires-clause-inside c = λ k is.
    let h = history_of (ends_of c.args.ranks.now) c.args.y in
    (subst (λ (o : Option ℕ). IsTakenAt h c.args.x c.args.n o) is
    (c.taken_at-at.ensures c.args.y c.requires.tabled.0 h (tables_here c.requires.tabled.0 c.args.ranks.now
    c.args.tables.now c.args.y c.index-tables-i.result c.requires.tabled.1 c.requires.known
    c.index-tables-i.is))).inside

pub returns : goal.returns
returns c = (
  c.taken_at-at.result,
  c.taken_at-at.ensures c.args.y c.requires.tabled.0 (history_of (ends_of c.args.ranks.now) c.args.y)
      (tables_here c.requires.tabled.0 c.args.ranks.now c.args.tables.now c.args.y c.index-tables-i.result
      c.requires.tabled.1 c.requires.known c.index-tables-i.is),
  c.held_at.ensures,
)
