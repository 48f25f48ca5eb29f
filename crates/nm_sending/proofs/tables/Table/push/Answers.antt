-- One element more in a row.
use Rattle.std.proofs.Common.{◌≡◌, ℕ, ◌+◌, ◌<◌, List, [], ◌∷◌, ◌++◌, length, map, max, sym, ◌∙◌, ap}
use Rattle.std.proofs.Common.{subst}
use Rattle.std.proofs.lemmas.List.{length-append}
use Rattle.std.proofs.Math.ListN.{set}
use Rattle.nm_sending.specs.declared.departures.Departure.{Departure}
use Rattle.nm_sending.specs.Rows.{RowView}
use Rattle.nm_sending.specs.Departures.{IsMost, TableView, fresh, row_of}
use Rattle.nm_sending.proofs.MostLemmas.{most-push}
use Rattle.nm_sending.proofs.tables.Table.push.Goals as goal
use Rattle.nm_types.proofs.RowLemmas.{row-push, row_at, row_inside}

pub returns : goal.returns
returns c =
    let inside = row_inside (λ (v : RowView). v.items) c.self.inside.rows.items c.args.to
    (subst (λ (k : TableView). c.args.to < length k.rows) (sym c.self.view_is) c.requires.to) in
    rw (← c.self.view_is)
    (row-push (λ (v : RowView). v.items) c.self.inside.rows.items c.args.to
    c.index_mut-row.result.now c.push.new.self (fresh c.args.how c.args.len) inside
    c.index_mut-row.ensures.value c.push.ensures)

pub invariant_of-self : goal.invariant_of-self
invariant_of-self c =
    let items : RowView → List Departure = λ v. v.items in
    let rows : List (List Departure) = map items c.self.inside.rows.items in
    let within : c.args.to < length rows =
    subst (λ (k : TableView). c.args.to < length k.rows) (sym c.self.view_is) c.requires.to in
    let inside = row_inside items c.self.inside.rows.items c.args.to within in
    let pushed : map items (set c.self.inside.rows.items c.args.to c.push.new.self)
    ≡ set rows c.args.to (row_of rows c.args.to ++ (fresh c.args.how c.args.len) ∷ []) =
    row-push items c.self.inside.rows.items c.args.to c.index_mut-row.result.now c.push.new.self
    (fresh c.args.how c.args.len) inside c.index_mut-row.ensures.value c.push.ensures in
    let measured : c.count.result ≡ length c.push.new.self.items =
    c.count.ensures in
    let long : c.count.result ≡ length (row_of rows c.args.to) + 1 =
    measured ∙ ap length c.push.ensures
    ∙ length-append c.index_mut-row.result.now.items ((fresh c.args.how c.args.len) ∷ [])
    ∙ ap (λ (l : List Departure). length l + 1) (sym (row_at items c.self.inside.rows.items c.args.to
    c.index_mut-row.result.now [] inside c.index_mut-row.ensures.value)) in
    rw (c.max-self-inside.ensures)
    (subst (λ (l : List (List Departure)). IsMost l (max c.self.inside.most c.count.result)) (sym pushed)
    (subst (λ (n : ℕ). IsMost (set rows c.args.to (row_of rows c.args.to ++ (fresh c.args.how c.args.len) ∷ []))
    (max c.self.inside.most n)) (sym long)
    (most-push rows c.args.to c.self.inside.most within c.self.invariant (fresh c.args.how c.args.len))))
