use Rattle.std.specs.Prelude.{IsSome}
use Rattle.std.proofs.Common.{sym, subst}
use Rattle.std.specs.List.{slice_get}
use Rattle.nm_receiving.specs.Rows.{RowView}
use Rattle.nm_receiving.specs.Steps.{ReceiptsView, rows_from}
use Rattle.nm_receiving.proofs.RowLemmas.{row_filled, row-whole}
use Rattle.nm_receiving.proofs.receipts.Receipts.make_whole_if.Goals as goal

pub make_whole-requires : goal.make_whole-requires
make_whole-requires c =
    let there = subst (λ (k : ReceiptsView). IsSome (slice_get (rows_from k.rows c.args.from) c.args.n))
    (sym c.self.view_is) c.requires in
    (row_filled (λ (row : RowView). row.messages) c.self.inside.rows.items c.args.from c.args.n
    c.index_mut.result.now c.index_mut.ensures.value there).1

pub returns-then-whole : goal.returns-then-whole
returns-then-whole c =
    let there = subst (λ (k : ReceiptsView). IsSome (slice_get (rows_from k.rows c.args.from) c.args.n))
    (sym c.self.view_is) c.requires in
    rw (c.if-whole.true, ← c.self.view_is)
    (row-whole (λ (row : RowView). row.messages) c.self.inside.rows.items c.args.from c.args.n
    c.index_mut.result.now c.make_whole.new.self c.index_mut.ensures.value there c.make_whole.ensures)
