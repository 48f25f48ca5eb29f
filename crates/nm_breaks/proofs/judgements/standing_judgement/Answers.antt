use Rattle.std.proofs.Common.{◌≡◌, ◌<◌, Option, Some, length, sym, subst, arith}
use Rattle.std.specs.Prelude.{IsSomeAnd}
use Rattle.std.specs.List.{slice_get}
use Rattle.nm_types.specs.Commands.{commands_of}
use Rattle.nm_history.specs.Quiescence.{Ended}
use Rattle.nm_report.specs.Ends.{end_of_account, ends_of}
use Rattle.nm_report.proofs.EndLemmas.{end_at}
use Rattle.nm_check.specs.RestBreaks.{IsNext}
use Rattle.nm_check.proofs.TableLemmas.{table_inside, tables_at}
use Rattle.nm_breaks.proofs.SpotLemmas.{many_ends, standing_known, waits_here}
use Rattle.nm_breaks.proofs.judgements.standing_judgement.Goals as goal

pub bounds-ranks-i : goal.bounds-ranks-i
bounds-ranks-i c =
    let known = standing_known c.args.lines.now (ends_of c.args.run.now.ranks) c.args.rank c.requires.found.at in
    let many = many_ends c.args.run.now.ranks in
    rw c.as_slice-ranks.ensures (omega (arith, many, known))

pub bounds-tables-i : goal.bounds-tables-i
bounds-tables-i c =
    let known = standing_known c.args.lines.now (ends_of c.args.run.now.ranks) c.args.rank c.requires.found.at in
    let many = many_ends c.args.run.now.ranks in
    table_inside c.args.run.now.ranks c.args.tables.now c.args.rank (c.args.lines.now, c.requires.tabled)
    (omega (arith, many, known))

pub next_of-next-requires : goal.next_of-next-requires
next_of-next-requires c =
    let known = standing_known c.args.lines.now (ends_of c.args.run.now.ranks) c.args.rank c.requires.found.at in
    let many = many_ends c.args.run.now.ranks in
    tables_at c.args.run.now.ranks c.args.tables.now c.args.rank c.index-ranks-i.result c.index-tables-i.result
    (c.args.lines.now, c.requires.tabled) (omega (arith, many, known))
    (rw c.as_slice-ranks.ensures at c.index-ranks-i.is) c.index-tables-i.is

pub returns : goal.returns
returns c = λ count.
    let ranks = c.args.run.now.ranks in
    let ends = ends_of ranks in
    let a = c.index-ranks-i.result in
    let known = standing_known c.args.lines.now ends c.args.rank c.requires.found.at in
    let many = many_ends ranks in
    let inside : c.args.rank < length ranks = omega (arith, many, known) in
    let here : slice_get ends c.args.rank ≡ Some (end_of_account a) =
    end_at ranks c.args.rank a inside (rw c.as_slice-ranks.ensures at c.index-ranks-i.is) in
    record {
      right = c.requires.found.judged;
      rests = (
        c.requires.found.at,
        sym (waits_here ends c.args.rank (end_of_account a) here),
        subst (λ (o : Option Ended). IsSomeAnd o
            (λ e. IsNext (commands_of c.args.rank c.args.lines.now) e c.next_of-next.result)) (sym here)
            c.next_of-next.ensures,
      );
    }
