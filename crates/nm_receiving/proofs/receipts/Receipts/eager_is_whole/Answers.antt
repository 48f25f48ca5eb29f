use Rattle.std.specs.Prelude.{IsSome, IsSomeAnd, is_some}
use Rattle.std.proofs.Common.{◌≡◌, List, Option, false, sym, ◌∙◌, ap, subst}
use Rattle.std.specs.List.{slice_get}
use Rattle.std.specs.Option.{option_map_or}
use Rattle.nm_history.specs.Sends.{is_ask}
use Rattle.nm_receiving.specs.declared.receipts.Receipt.{Receipt}
use Rattle.nm_receiving.specs.Rows.{RowView}
use Rattle.nm_receiving.specs.Steps.{ReceiptsView, rows_from}
use Rattle.nm_receiving.proofs.RowLemmas.{row_filled}
use Rattle.nm_types.proofs.OptionLemmas.{some_and}
use Rattle.nm_receiving.proofs.receipts.Receipts.eager_is_whole.Goals as goal

-- there is one, where one is eager
there_is : (o : Option Receipt) → IsSomeAnd o (λ r. is_ask r.arrival.env.how ≡ false) → IsSome o
there_is o eager = let r = some_and (λ (r : Receipt). is_ask r.arrival.env.how ≡ false) o eager in
    ap (λ (o : Option Receipt). is_some o) r.1

pub is_whole-requires : goal.is_whole-requires
is_whole-requires c =
    let rows = c.self.inside.rows.items in
    let eager = subst (λ (k : ReceiptsView). IsSomeAnd (slice_get (rows_from k.rows c.args.from) c.args.n)
    (λ r. is_ask r.arrival.env.how ≡ false)) (sym c.self.view_is) c.requires in
    let row = row_filled (λ (row : RowView). row.messages) rows c.args.from c.args.n c.index.result.now c.index.ensures
    (there_is _ eager) in
    subst (λ (rs : List Receipt). IsSomeAnd (slice_get rs c.args.n) (λ r. is_ask r.arrival.env.how ≡ false)) row.0 eager

pub returns : goal.returns
returns c =
    let rows = c.self.inside.rows.items in
    let eager = subst (λ (k : ReceiptsView). IsSomeAnd (slice_get (rows_from k.rows c.args.from) c.args.n)
    (λ r. is_ask r.arrival.env.how ≡ false)) (sym c.self.view_is) c.requires in
    let row = row_filled (λ (row : RowView). row.messages) rows c.args.from c.args.n c.index.result.now c.index.ensures
    (there_is _ eager) in
    rw (← c.self.view_is)
    (c.is_whole.ensures
    ∙ ap (λ (rows : List Receipt). option_map_or (λ r. r.whole) (slice_get rows c.args.n) false) (sym row.0))
