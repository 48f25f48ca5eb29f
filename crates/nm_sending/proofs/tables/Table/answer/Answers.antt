-- One message of a row changes.
use Rattle.std.proofs.Common.{◌<◌, ◌&&◌, true, not, Some, length, sym, subst}
use Rattle.nm_sending.specs.Departures.{TableView, was_undone}
use Rattle.nm_sending.proofs.RowLemmas.{most-changed, passes_at, rows-changed}
use Rattle.nm_sending.proofs.tables.Table.answer.Goals as goal

pub answer-requires : goal.answer-requires
answer-requires c =
    let to = subst (λ (k : TableView). c.args.to < length k.rows) (sym c.self.view_is) c.requires.to in
    passes_at c.self.inside.rows.items c.args.to c.args.n c.index_mut.result.now c.index_mut.result.now to
    c.index_mut.ensures.value (λ d. d.recalled && not (was_undone true d)) (rw (← c.self.view_is) at c.requires.recalled)

pub returns : goal.returns
returns c =
    let to = subst (λ (k : TableView). c.args.to < length k.rows) (sym c.self.view_is) c.requires.to in
    rw (← c.self.view_is) (rows-changed c.self.inside.rows.items c.args.to c.args.n c.index_mut.result.now
    c.answer.new.self to c.index_mut.ensures.value (λ d. record d { undone = Some c.args.done }) c.answer.ensures)

pub invariant_of-self : goal.invariant_of-self
invariant_of-self c =
    let to = subst (λ (k : TableView). c.args.to < length k.rows) (sym c.self.view_is) c.requires.to in
    most-changed c.self.inside.rows.items c.args.to c.args.n c.index_mut.result.now c.answer.new.self to
    c.index_mut.ensures.value (λ d. record d { undone = Some c.args.done }) c.answer.ensures (λ d. d.recalled && not (was_undone true d))
    c.self.inside.most
    (rw (← c.self.view_is) at c.requires.recalled) c.self.invariant
