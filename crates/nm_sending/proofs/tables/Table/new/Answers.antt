-- One empty row for each rank.
use Rattle.std.proofs.Common.{◌≡◌, ℕ, List, [], ◌∙◌, ap, arith, replicate}
use Rattle.nm_sending.specs.declared.departures.Departure.{Departure}
use Rattle.nm_sending.specs.Rows.{RowView}
use Rattle.nm_sending.proofs.tables.Table.new.Goals as goal
use Rattle.nm_types.proofs.RowLemmas.{rows-push}

pub loop-preserved : goal.loop-preserved
loop-preserved c = rw (c.in_ok-push.ensures.items)
    (rows-push (λ (v : RowView). v.items) c.loop.rows.items c.loop.counter c.new.result []
    c.loop.invariant c.new.ensures)

pub returns : goal.returns
returns c =
    let all : c.loop.counter ≡ c.args.ranks = omega arith in
    c.loop.invariant ∙ ap (λ (n : ℕ). let ys : List (List Departure) = replicate n [] in ys) all
