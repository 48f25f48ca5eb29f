use Rattle.std.proofs.Common.{◌+◌, ◌<◌, ◌^◌, length, sym, subst}
use Rattle.std.proofs.Common.{List}
use Rattle.nm_receiving.specs.declared.receipts.Receipt.{Receipt}
use Rattle.nm_receiving.specs.Rows.{RowView}
use Rattle.nm_receiving.specs.Steps.{ReceiptsView, rows_from}
use Rattle.nm_receiving.proofs.receipts.Receipts.push.Goals as goal
use Rattle.nm_types.proofs.RowLemmas.{row-push, row_at, row_inside}

pub push-requires-clause-few : goal.push-requires-clause-few
push-requires-clause-few c =
    let inside = row_inside (λ (row : RowView). row.messages) c.self.inside.rows.items c.args.from
    (subst (λ (k : ReceiptsView). c.args.from < length k.rows) (sym c.self.view_is) c.requires.from) in
    subst (λ (rs : List Receipt). length rs + 1 < 2 ^ 64)
    (row_at (λ (row : RowView). row.messages) c.self.inside.rows.items c.args.from c.index_mut.result.now _ inside
    c.index_mut.ensures.value)
    (subst (λ (k : ReceiptsView). length (rows_from k.rows c.args.from) + 1 < 2 ^ 64) (sym c.self.view_is)
    c.requires.few)

pub returns : goal.returns
returns c =
    let inside = row_inside (λ (row : RowView). row.messages) c.self.inside.rows.items c.args.from
    (subst (λ (k : ReceiptsView). c.args.from < length k.rows) (sym c.self.view_is) c.requires.from)
    in
    rw (← c.self.view_is)
    (row-push (λ (row : RowView). row.messages) c.self.inside.rows.items c.args.from
    c.index_mut.result.now c.push.new.self c.args.receipt inside c.index_mut.ensures.value
    c.push.ensures)
