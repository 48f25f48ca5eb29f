-- A row that holds the same, with room.
use Rattle.std.proofs.Common.{◌<◌, List, length, sym, subst}
use Rattle.nm_sending.specs.declared.departures.Departure.{Departure}
use Rattle.nm_sending.specs.Rows.{RowView}
use Rattle.nm_sending.specs.Departures.{IsMost, TableView}
use Rattle.nm_sending.proofs.tables.Table.reserve_recall.Goals as goal
use Rattle.nm_types.proofs.RowLemmas.{row-same, row-new, row_inside}

pub returns-in_err-reserve_recall-clause-rows : goal.returns-in_err-reserve_recall-clause-rows
returns-in_err-reserve_recall-clause-rows c =
    rw (← c.self.view_is)
    (row-same (λ (v : RowView). v.items) c.self.inside.rows.items c.args.to
    c.index_mut.result.now c.reserve_recall.new.self c.index_mut.ensures.value c.reserve_recall.ensures.items)

pub returns-clause-rows : goal.returns-clause-rows
returns-clause-rows c =
    rw (← c.self.view_is)
    (row-same (λ (v : RowView). v.items) c.self.inside.rows.items c.args.to
    c.index_mut.result.now c.reserve_recall.new.self c.index_mut.ensures.value c.reserve_recall.ensures.items)

pub returns-clause-ok : goal.returns-clause-ok
returns-clause-ok c =
    let inside = row_inside (λ (v : RowView). v.items) c.self.inside.rows.items c.args.to
    (subst (λ (k : TableView). c.args.to < length k.rows) (sym c.self.view_is) c.requires) in
    row-new (λ (v : RowView). v.spare) c.self.inside.rows.items c.args.to c.reserve_recall.new.self inside
    c.in_ok-reserve_recall.ensures.ok

pub invariant_of-self : goal.invariant_of-self
invariant_of-self c =
    subst (λ (l : List (List Departure)). IsMost l c.self.inside.most)
    (sym (row-same (λ (v : RowView). v.items) c.self.inside.rows.items c.args.to
    c.index_mut.result.now c.reserve_recall.new.self c.index_mut.ensures.value c.reserve_recall.ensures.items))
    c.self.invariant

pub invariant_of-self-2 : goal.invariant_of-self-2
invariant_of-self-2 c =
    subst (λ (l : List (List Departure)). IsMost l c.self.inside.most)
    (sym (row-same (λ (v : RowView). v.items) c.self.inside.rows.items c.args.to
    c.index_mut.result.now c.reserve_recall.new.self c.index_mut.ensures.value c.reserve_recall.ensures.items))
    c.self.invariant
