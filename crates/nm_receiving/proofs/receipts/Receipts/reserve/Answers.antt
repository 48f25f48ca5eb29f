use Rattle.std.proofs.Common.{◌<◌, length, sym, subst}
use Rattle.nm_receiving.specs.Rows.{RowView}
use Rattle.nm_receiving.specs.Steps.{ReceiptsView}
use Rattle.nm_receiving.proofs.receipts.Receipts.reserve.Goals as goal
use Rattle.nm_types.proofs.RowLemmas.{row-same, row-new, row_inside}

pub returns-in_err-reserve-clause-rows : goal.returns-in_err-reserve-clause-rows
returns-in_err-reserve-clause-rows c =
    rw (← c.self.view_is)
    (row-same (λ (row : RowView). row.messages) c.self.inside.rows.items c.args.from
    c.index_mut.result.now c.reserve.new.self c.index_mut.ensures.value c.reserve.ensures.same)

pub returns-clause-rows : goal.returns-clause-rows
returns-clause-rows c =
    rw (← c.self.view_is)
    (row-same (λ (row : RowView). row.messages) c.self.inside.rows.items c.args.from
    c.index_mut.result.now c.reserve.new.self c.index_mut.ensures.value c.reserve.ensures.same)

pub returns-clause-ok : goal.returns-clause-ok
returns-clause-ok c =
    let inside = row_inside (λ (row : RowView). row.messages) c.self.inside.rows.items c.args.from
    (subst (λ (k : ReceiptsView). c.args.from < length k.rows) (sym c.self.view_is) c.requires) in
    row-new (λ (row : RowView). row.room) c.self.inside.rows.items c.args.from c.reserve.new.self inside
    c.in_ok-reserve.ensures.ok
