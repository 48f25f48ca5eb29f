-- One message of a row changes.
use Rattle.std.proofs.Common.{◌<◌, not, length, sym, subst, true}
use Rattle.nm_sending.specs.Departures.{TableView}
use Rattle.nm_sending.proofs.RowLemmas.{most-changed, passes_at, rows-changed}
use Rattle.nm_sending.proofs.tables.Table.recall.Goals as goal

pub recall-requires-clause-is_new : goal.recall-requires-clause-is_new
recall-requires-clause-is_new c =
    let to = subst (λ (k : TableView). c.args.to < length k.rows) (sym c.self.view_is) c.requires.to in
    passes_at c.self.inside.rows.items c.args.to c.args.n c.index_mut.result.now c.index_mut.result.now to
    c.index_mut.ensures.value (λ d. not d.recalled) (rw (← c.self.view_is) at c.requires.is_new)

pub returns : goal.returns
returns c =
    let to = subst (λ (k : TableView). c.args.to < length k.rows) (sym c.self.view_is) c.requires.to in
    rw (← c.self.view_is) (rows-changed c.self.inside.rows.items c.args.to c.args.n c.index_mut.result.now
    c.recall.new.self to c.index_mut.ensures.value (λ d. record d { recalled = true }) c.recall.ensures)

pub invariant_of-self : goal.invariant_of-self
invariant_of-self c =
    let to = subst (λ (k : TableView). c.args.to < length k.rows) (sym c.self.view_is) c.requires.to in
    most-changed c.self.inside.rows.items c.args.to c.args.n c.index_mut.result.now c.recall.new.self to
    c.index_mut.ensures.value (λ d. record d { recalled = true }) c.recall.ensures (λ d. not d.recalled)
    c.self.inside.most
    (rw (← c.self.view_is) at c.requires.is_new) c.self.invariant
